use Rattle.rules.proofs.facts.posts_in_range_stands.Goals as goal
use Rattle.rules.proofs.Ranges.{posts-in_range}

pub returns : goal.returns
returns c = posts-in_range
