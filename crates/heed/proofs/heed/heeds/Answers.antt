use mathlib.Core.Path.{◌≡◌, ap, ◌∙◌}
use Prim.Native.Nat.{ℕ}
use mathlib.Core.Bool.{Bool}
use lib.Dec.{ltb}
use Rattle.rows.specs.Meaning.{setting_of, proposal_of}
use Rattle.heed.specs.Heed.{first_by, led_by, taken_in}
use Rattle.heed.proofs.heed.heeds.Goals as goal

-- the test, with each of its parts told in another way
same_facts : (k : ℕ) (r v v' a a' h l l' f f' : Bool) → r ≡ taken_in k v a h l f → v ≡ v' → a ≡ a' → l ≡ l' → f ≡ f' → r ≡ taken_in k v' a' h l' f'
same_facts k r v v' a a' h l l' f f' e ev ea el ef =
    e ∙ (ap (λ x. taken_in k x a h l f) ev ∙ (ap (λ x. taken_in k v' x h l f) ea ∙ (ap (λ x. taken_in k v' a' h x f) el ∙ ap (taken_in k v' a' h l') ef)))

pub returns : goal.returns
returns g c =
    let v = g.V.Value in
    let s = setting_of v.width v.allows c.args.party.now.seat in
    let m = c.args.m.now in
    same_facts m.kind _ _ _ _ _ _ _ _ _ _ c.takes_in.ensures c.is_open.ensures
    (ap (λ r. ltb r.request m.view) c.row_from-row.ensures)
    (c.is_led.ensures ∙ ap (λ k. led_by c.args.party.now.seat.me k m.from m.kind) c.primary_of-primary.ensures)
    (c.is_first.ensures s ∙ ap (λ r. first_by s (proposal_of v.bytes c.args.party.now.own.now.proposal) r m.kind) c.row_from-row.ensures)
