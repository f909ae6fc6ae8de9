use Rattle.std.proofs.Common.{◌≡◌, Some, sym, subst}
use Rattle.values.specs.declared.order.Order.{Order}
use Rattle.values.specs.Orders.{order_bytes}
use Rattle.sheet_fields.specs.Texts.{order_text}
use Rattle.sheet_print.specs.Shown.{order_shown}
use Rattle.sheet_print.proofs.Back.{pace_back}
use Rattle.sheet_print.proofs.value_text.OrderValueText.to_text.Goals as goal

pub returns-in-Pace-clause-back : goal.returns-in-Pace-clause-back
returns-in-Pace-clause-back c =
    let r = c.in-Pace.rate in
    λ _. subst (λ (o : Order). order_text (order_shown o) ≡ Some (order_bytes o)) (sym c.in-Pace.is) (pace_back r.number r.low r.high)
