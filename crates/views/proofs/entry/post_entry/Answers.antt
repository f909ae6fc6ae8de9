use Rattle.posting.proofs.Lists.{takes_first, takes_rest}
use Rattle.views.proofs.entry.post_entry.Goals as goal

pub send_view-requests-requires : goal.send_view-requests-requires
send_view-requests-requires g c = takes_first _ _ _ _ _ _ c.requires

pub suggest_primary-suggests-requires : goal.suggest_primary-suggests-requires
suggest_primary-suggests-requires g c =
    takes_first _ _ _ _ _ _ (takes_rest _ _ _ _ _ _ _ _ c.requires c.send_view-requests.ensures.list c.send_view-requests.ensures.kept)

pub make_proof-proofs-requires : goal.make_proof-proofs-requires
make_proof-proofs-requires g c =
    takes_rest _ _ _ _ _ _ _ _ (takes_rest _ _ _ _ _ _ _ _ c.requires c.send_view-requests.ensures.list c.send_view-requests.ensures.kept)
    c.suggest_primary-suggests.ensures.list c.suggest_primary-suggests.ensures.kept
