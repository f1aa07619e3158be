use Rattle.session_steps.specs.Promise.{fetch_of, IsLost}
use Rattle.session_steps.proofs.Promised.{fetch_right}
use Rattle.session_steps.proofs.Serving.{says_lost, lost_crashed_or_unheard}
use Rattle.session_steps.proofs.laws.fetches_lose_only_where_all_have.Goals as goal

pub returns-clause-lost : goal.returns-clause-lost
returns-clause-lost c = λ setup boot story causes is.
    says_lost (fetch_of story) story.text causes (fetch_right c.acknowledged_cookies_stay_acknowledged.ensures setup boot story) is

pub returns-clause-crashed_or_unheard : goal.returns-clause-crashed_or_unheard
returns-clause-crashed_or_unheard c = λ setup boot story causes place holder is within there.
    let lost : IsLost (fetch_of story) story.text =
    says_lost (fetch_of story) story.text causes (fetch_right c.acknowledged_cookies_stay_acknowledged.ensures setup boot story) is in
    lost_crashed_or_unheard (fetch_of story) story.text place holder lost within there
