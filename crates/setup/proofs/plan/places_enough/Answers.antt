use Rattle.std.proofs.Common.{◌*◌, leb, length, ap, arith}
use Rattle.setup.proofs.Tests.{few-own, few-records, by_rows}
use Rattle.setup.proofs.plan.places_enough.Goals as goal

pub returns-then-own-n : goal.returns-then-own-n
returns-then-own-n g c =
    let n = c.args.ring.now.n in
    few-own n (length c.args.own.now) (length c.args.records.now) (n * n) (length c.args.rows.now) (omega arith)

pub returns-then-records-n : goal.returns-then-records-n
returns-then-records-n g c =
    let n = c.args.ring.now.n in
    few-records n (length c.args.own.now) (length c.args.records.now) (n * n) (length c.args.rows.now) (omega arith)

pub returns : goal.returns
returns g c =
    let n = c.args.ring.now.n in
    by_rows n (length c.args.own.now) (length c.args.records.now) (n * n) (length c.args.rows.now) _ (omega arith) (omega arith)
    (ap (λ j. leb j (length c.args.rows.now)) c.rows_of_all.ensures)
