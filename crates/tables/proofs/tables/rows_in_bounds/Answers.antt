use Rattle.std.proofs.Common.{◌≡◌, get_or, ap, ◌∙◌, rules, tests}
use Rattle.std.specs.List.{list_all}
use Rattle.std.proofs.lemmas.List.{get_or_default}
use Rattle.std.proofs.lemmas.Iterator.{YieldsList-from_slice}
use Rattle.std.proofs.lemmas.Iterator.Search.{all_from_yields_List}
use Rattle.rules.specs.Bounds.{row_fits}
use Rattle.rows.specs.Meaning.{row_of, rows_of}
use Rattle.rows.proofs.Senders.{row_read}
use Rattle.tables.proofs.Every.{every_listed}
use Rattle.tables.proofs.tables.rows_in_bounds.Goals as goal

pub returns : goal.returns
returns g c =
    let b = g.V.Value.bytes in
    let rs = c.args.rows.now in
    let each : c.all.result ≡ list_all (λ r. row_fits (row_of b r)) rs = all_from_yields_List (λ r. row_fits (row_of b r)) _ _ _ c.all.ensures.ran (YieldsList-from_slice rs cc) (λ x y q k. search (rules, tests)) in
    each ∙ every_listed (λ r. row_fits (row_of b r)) rs (λ j. row_fits (rows_of b rs j)) (λ i d h. ap row_fits (row_read b rs i (get_or rs i d) h (get_or_default rs i d (get_or rs i d) h)))
