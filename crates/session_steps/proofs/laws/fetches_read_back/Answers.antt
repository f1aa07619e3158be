use Rattle.session_steps.specs.Promise.{fetch_of}
use Rattle.session_steps.proofs.Promised.{fetch_right}
use Rattle.session_steps.proofs.Serving.{served_found, says_found, past_expired}
use Rattle.session_steps.proofs.laws.fetches_read_back.Goals as goal

pub returns-clause-found : goal.returns-clause-found
returns-clause-found c = λ setup boot story in_time serves.
    served_found (fetch_of story) story.text (fetch_right c.acknowledged_cookies_stay_acknowledged.ensures setup boot story) in_time serves

pub returns-clause-only : goal.returns-clause-only
returns-clause-only c = λ setup boot story value is.
    says_found (fetch_of story) story.text value (fetch_right c.acknowledged_cookies_stay_acknowledged.ensures setup boot story) is

pub returns-clause-expired : goal.returns-clause-expired
returns-clause-expired c = λ setup boot story past.
    past_expired (fetch_of story) story.text (fetch_right c.acknowledged_cookies_stay_acknowledged.ensures setup boot story) past
