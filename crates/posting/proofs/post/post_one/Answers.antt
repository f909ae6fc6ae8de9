use Rattle.std.proofs.Common.{refl}
use Rattle.messages.specs.Meaning.{message}
use Rattle.posting.proofs.Lists.{post_taken}
use Rattle.posting.proofs.post.post_one.Goals as goal

pub returns : goal.returns
returns g c =
    let w = g.W.Wire in
    let v = g.V.Value in
    record {
      list = post_taken v.valid v.width (w.capacity c.args.w.now) (w.waiting c.args.w.now) _ (message v.bytes c.args.m.now) c.requires c.post.ensures.after;
      answer = refl;
      kept = c.post.ensures.kept;
    }
