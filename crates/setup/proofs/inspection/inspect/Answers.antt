use Rattle.std.proofs.Common.{eqb, leb, ap, ◌∙◌}
use Rattle.setup.proofs.inspection.inspect.Goals as goal

pub returns : goal.returns
returns g c =
    let r = c.args.planned.now in
    record {
      named = c.none_above.ensures r.most;
      few = ap (λ x. leb x r.f) (c.count_named.ensures r.most);
      places = c.places_enough.ensures;
      owns = c.owns_in_order.ensures;
      vacant = ap (λ x. eqb x 0) c.count.ensures.value;
      roomy = ap (λ x. leb x c.room.result) c.rows_of_all.ensures ∙ ap (leb _) c.room.ensures;
    }
