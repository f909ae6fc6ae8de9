use Rattle.rules.proofs.facts.posts_few_stands.Goals as goal
use Rattle.rules.proofs.Few.{posts-few}

pub returns : goal.returns
returns c = posts-few
