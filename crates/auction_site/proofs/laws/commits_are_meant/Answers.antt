use Rattle.auction_site.proofs.Meaning.{commit_is_meant}
use Rattle.auction_site.proofs.laws.commits_are_meant.Goals as goal

pub returns : goal.returns
returns c = commit_is_meant
