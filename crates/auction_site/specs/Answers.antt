-- What actions answer: an HTTP status, a page, and what becomes of the session.
use Rattle.std.specs.Prelude.{ℕ, List, [], ◌++◌, codes}
use Rattle.std.specs.Fmt.{decimal}
use Rattle.crash_base.specs.declared.row_id.RowId.{RowId}
use Rattle.journal_model.specs.declared.entry.DoneText.{DoneText}
use Rattle.journal_model.specs.declared.entry.SessionChange.TheVariants.{Keep, Set}
use Rattle.action_plans.specs.declared.plan.Outcome.{Outcome}
use Rattle.auction_rows.specs.Session.{session_bytes}
use Rattle.auction_rules.specs.declared.refusal.RuleRefusal.{RuleRefusal}
use Rattle.auction_rules.specs.declared.refusal.RuleRefusal.TheVariants as rule
use Rattle.page_text.specs.declared.page_line.PageLine.{PageLine}
use Rattle.page_text.specs.Pages.{page_bytes}

-- an answer that leaves the session as it is
abbrev pub shows : ℕ → List ℕ → List PageLine → DoneText
shows status heading lines = record { status = status; page = page_bytes heading lines; session = Keep }

-- an answer after which the session is that of a user
abbrev pub shows_with_session : ℕ → ℕ → List ℕ → List PageLine → DoneText
shows_with_session user now heading lines =
    record { status = 200; page = page_bytes heading lines; session = Set (session_bytes user now) }

-- an answer and nothing written
abbrev pub answered : DoneText → Outcome
answered done = record { writes = []; done = done }

-- nobody is signed in
abbrev pub sign_in_first : DoneText
sign_in_first = shows 403 (codes "Sign in first") []

-- a row is missing
abbrev pub not_there : DoneText
not_there = shows 404 (codes "Not there") []

-- a counter is at its limit
abbrev pub no_more_numbers : DoneText
no_more_numbers = shows 409 (codes "No more numbers") []

-- the bytes of a row spell no row of its table
abbrev pub bad_row : RowId → DoneText
bad_row id = shows 500 (codes "Bad row " ++ decimal id.table ++ codes " " ++ decimal id.key) []

-- a user has this name, or another name whose row has the same id
abbrev pub name_taken : DoneText
name_taken = shows 409 (codes "Name taken") []

-- no user has this name and this password
abbrev pub wrong_password : DoneText
wrong_password = shows 403 (codes "Wrong name or password") []

-- the user may not do this
abbrev pub not_allowed : DoneText
not_allowed = shows 403 (codes "Not allowed") []

-- the price for a sale at once is below the least bid
abbrev pub bad_buy_now : DoneText
bad_buy_now = shows 400 (codes "Bad field buy_now") []

-- the category of a new item is missing
abbrev pub no_such_category : DoneText
no_such_category = shows 409 (codes "No such category") []

-- a rule refuses
abbrev pub rule_answer : RuleRefusal → DoneText
rule_answer rule.AuctionOver = shows 409 (codes "Auction over") []
rule_answer rule.OwnItem = shows 409 (codes "Own item") []
rule_answer rule.BidTooLow = shows 409 (codes "Bid too low") []
rule_answer rule.NotForSale = shows 409 (codes "Not for sale") []
rule_answer rule.NotSold = shows 409 (codes "Not sold") []
rule_answer rule.NotAllowed = not_allowed
rule_answer rule.AlreadyGiven = shows 409 (codes "Already given") []
