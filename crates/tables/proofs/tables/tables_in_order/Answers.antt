use Rattle.std.proofs.Common.{[], arith}
use Rattle.tables.specs.Meaning.{ring_of}
use Rattle.tables.proofs.Fitting.{few-records, few-rows, all_fit}
use Rattle.tables.proofs.tables.tables_in_order.Goals as goal

pub returns-then-records-ring : goal.returns-then-records-ring
returns-then-records-ring g c =
    few-records (ring_of g.V.Value.bytes c.args.ring.now c.args.records.now c.args.rows.now [] 0) (omega arith)

pub returns-then-rows-rows_of_all : goal.returns-then-rows-rows_of_all
returns-then-rows-rows_of_all g c =
    few-rows (ring_of g.V.Value.bytes c.args.ring.now c.args.records.now c.args.rows.now [] 0) (omega (arith, c.rows_of_all.ensures))

pub parties_in_order-requires : goal.parties_in_order-requires
parties_in_order-requires g c = (omega arith, omega (arith, c.rows_of_all.ensures))

pub returns : goal.returns
returns g c =
    all_fit (ring_of g.V.Value.bytes c.args.ring.now c.args.records.now c.args.rows.now [] 0) c.parties_in_order.result
    (omega arith) (omega (arith, c.rows_of_all.ensures)) c.parties_in_order.ensures
