-- Lines that are under way: which they are, and what one reply of the keeper more adds to their calls.
use Rattle.std.proofs.Common.{◌≡◌, ◌⊎◌, inl, inr, ℕ, Bool, true, false, cond, List, [], ◌∷◌, ◌++◌, Option, Some, None, refl, sym, ap, ◌∙◌, subst, append_assoc}
use Rattle.crash_base.specs.declared.rows.RowWrite.{RowWrite}
use Rattle.line_steps.specs.Callers.{call_step}
use Rattle.line_steps.specs.Head.{head_line}
use Rattle.line_steps.specs.declared.head.Head.{Head}
use Rattle.outside.specs.declared.keeper.KeeperFault.TheVariants as faults
use Rattle.outside.specs.Keeper.{KeeperTold, TellsRefusal}
use Rattle.scenario_text.specs.Answer.{Answer, Refused, Done, within}
use Rattle.scenario_text.specs.Line.{is_event}
use Rattle.scenario_text.specs.Reading.{line_of}
use Rattle.scenario_text.specs.declared.line.Line.{Line}
use Rattle.scenario_text.specs.declared.line.Line.TheVariants as lines
use Rattle.scenario_text.specs.declared.seat_line.SeatLine.{SeatLine}
use Rattle.scenario_text.specs.declared.seat_line.SeatLine.TheVariants as seats
use Rattle.seat_lines.specs.Handing.{Handed, handed_first, line_hands, run_hands, step_hands, writes_by}
use Rattle.seat_lines.specs.Lines.{bytes_line, conn_line, end_line, step_line}
use Rattle.seat_lines.specs.Runs.{can_run, rests, run_from, run_line, seat_line}
use Rattle.seat_lines.specs.Site.{SiteState, seat_at}
use Rattle.session_steps.specs.Sessions.{session_line}
use Rattle.scenario_engine.specs.Engine.{Replies, Target, TheHead, TheBoot, TheUnstarted, calls_on, first_keeps, in_head, line_calls, line_on, line_over, next_calls, next_opening, reopens, step, target_calls, target_of, with_reply}
use Rattle.scenario_engine.specs.KeeperCalls.{AreCounted, AreMade, AreSomeAsked, KeeperCall, Kept, Failed, KeeperSeen, TellsCalls}
use Rattle.scenario_engine.specs.Opening.{Opening, Opened, UnstartedBoot}
use Rattle.scenario_engine.specs.Running.{boot_line, commit_step, with_called, with_sessions}
use Rattle.scenario_engine.specs.Seats.{after_steps, by_replies, handed_calls, in_boot, next_calls_over, seat_calls, seat_over, step_calls, steps_made}
use Rattle.scenario_engine.specs.State.{Heading, RefusedIn, Running, RunningState, State, UnderWayIn, site_of, with_site}
use Rattle.scenario_engine.specs.Transcript.{Turn, answer_to, calls_to, turn_outcome}
use Rattle.scenario_engine.specs.UnderWay.{MakesOneMore}
use Rattle.scenario_engine.proofs.Handing.{handed-append}

-- which lines are under way: those about connections that wait for a reply

not_in_boot : (r : RunningState) (a : Answer RunningState) (mid : State) → in_boot r a ≡ UnderWayIn mid → ⊥
not_in_boot r Refused mid is = cc
not_in_boot r (Done next text) mid is = cc

not_in_head : (head : Head) (a : Answer Head) (mid : State) → in_head head a ≡ UnderWayIn mid → ⊥
not_in_head head Refused mid is = cc
not_in_head head (Done next text) mid is = cc

not_reopened : (r : RunningState) (how : Opening) (mid : State) → reopens r how ≡ UnderWayIn mid → ⊥
not_reopened r (Opened start) mid is = cc
not_reopened r (UnstartedBoot cause) mid is = cc

-- a line about connections over a boot, for which the keeper is to reply once more
record Waits (r : RunningState) (line : SeatLine) (replies : List Bool) (mid : State) : Type 0 where
  site : r.site ≡ true
  asks : seat_line (site_of r) line replies ≡ None
  mid_is : mid ≡ Running (with_site r (steps_made (site_of r) line replies))

seat_waits : (r : RunningState) (line : SeatLine) (replies : List Bool) (mid : State) → seat_over r line replies ≡ UnderWayIn mid → Waits r line replies mid
unfolding seat_over
seat_waits r line replies mid is = go r.site refl (seat_line (site_of r) line replies) refl is
  where
    go : (site : Bool) → r.site ≡ site → (o : Option (Answer SiteState)) → seat_line (site_of r) line replies ≡ o → cond site (by_replies r line replies o) (RefusedIn (Running r)) ≡ UnderWayIn mid → Waits r line replies mid
    go false off o asked is = absurd (cc)
    go true on None asked is = record { site = on; asks = asked; mid_is = cc }
    go true on (Some a) asked is = absurd (not_in_boot r (within (with_site r) a) mid is)

-- a line over a boot that waits so
record WaitsOver (r : RunningState) (line : Line) (replies : List Bool) (mid : State) : Type 0 where
  seat : SeatLine
  line_is : line ≡ lines.Seat seat
  waits : Waits r seat replies mid

over_waits : (r : RunningState) (line : Line) (replies : Replies) (mid : State) → line_over r line replies ≡ UnderWayIn mid → WaitsOver r line replies.keeps mid
over_waits r lines.Pass replies mid is = absurd (cc)
over_waits r (lines.Head line) replies mid is = absurd (cc)
over_waits r (lines.Call caller line) replies mid is = absurd (not_in_boot r (within (with_called r) (call_step r.boot r.callers caller line)) mid is)
over_waits r (lines.Commit caller) replies mid is = absurd (not_in_boot r (commit_step r caller (first_keeps replies.keeps)) mid is)
over_waits r (lines.Boot line) replies mid is = absurd (not_in_boot r (boot_line r line) mid is)
over_waits r lines.Reopen replies mid is = absurd (not_reopened r (next_opening r replies.again) mid is)
over_waits r (lines.Session line) replies mid is = absurd (not_in_boot r (within (with_sessions r) (session_line r.sessions line)) mid is)
over_waits r (lines.Seat line) replies mid is = record { seat = line; line_is = refl; waits = seat_waits r line replies.keeps mid is }

-- a line that is done to a target and waits so
record WaitsOn (target : Target) (line : Line) (replies : List Bool) (mid : State) : Type 0 where
  running : RunningState
  target_is : target ≡ TheBoot running
  over : WaitsOver running line replies mid

on_waits : (target : Target) (line : Line) (replies : Replies) (mid : State) → line_on target line replies ≡ UnderWayIn mid → WaitsOn target line replies.keeps mid
on_waits (TheHead head) line replies mid is = absurd (not_in_head head (head_line head line) mid is)
on_waits (TheBoot r) line replies mid is = record { running = r; target_is = refl; over = over_waits r line replies mid is }
on_waits (TheUnstarted head cause) line replies mid is = absurd (cc)

-- what a step hands behind the whole steps of a line

abbrev next_hands : SiteState → SeatLine → Bool → List Handed
next_hands s (seats.Conn n) keeps = []
next_hands s (seats.Bytes n bytes) keeps = []
next_hands s (seats.End n) keeps = []
next_hands s (seats.Step n) keeps = step_hands s n (keeps ∷ [])
next_hands s (seats.Run n) keeps = step_hands s n (keeps ∷ [])

next_over : (r : RunningState) (line : SeatLine) (keeps : Bool) → next_calls_over r line keeps ≡ handed_calls (next_hands (site_of r) line keeps)
next_over r (seats.Conn n) keeps = refl
next_over r (seats.Bytes n bytes) keeps = refl
next_over r (seats.End n) keeps = refl
next_over r (seats.Step n) keeps = refl
next_over r (seats.Run n) keeps = refl

first_on : (writes : List RowWrite) (keeps : Bool) (a b : List Handed) → handed_first writes keeps (a ++ b) ≡ handed_first writes keeps a ++ b
first_on [] keeps a b = refl
first_on (w ∷ ws) keeps a b = refl

-- what a step of a run hands, and those behind it
abbrev HandsThen : SiteState → ℕ → Bool → List Bool → Bool → Answer SiteState → List Handed
HandsThen s n keeps more at_rest answer = cond at_rest [] (elim answer [ Refused ↦ [] | Done t out ↦ handed_first (writes_by (seat_at s.seats.seats n) s.boot) keeps (run_hands t n more) ])

-- what it comes to, and where it leads
abbrev RunThen : SiteState → List ℕ → ℕ → List Bool → Bool → Answer SiteState → Option (Answer SiteState)
RunThen s text n more at_rest answer = cond at_rest (Some (Done s text)) (elim answer [ Refused ↦ Some Refused | Done t out ↦ run_from t (text ++ out) n more ])

abbrev StepsThen : SiteState → ℕ → List Bool → Bool → Answer SiteState → SiteState
StepsThen s n more at_rest answer = cond at_rest s (elim answer [ Refused ↦ s | Done t out ↦ after_steps t n more ])

-- a run that is under way: one reply more hands what its next step hands
run_more : (s : SiteState) (text : List ℕ) (n : ℕ) (replies : List Bool) (keeps : Bool) → run_from s text n replies ≡ None → run_hands s n (replies ++ keeps ∷ []) ≡ run_hands s n replies ++ step_hands (after_steps s n replies) n (keeps ∷ [])
run_more s text n [] keeps is = go (rests (seat_at s.seats.seats n)) (step_line s n keeps) is
  where
    go : (b : Bool) (a : Answer SiteState) → cond b (Some (Done s text)) None ≡ None → HandsThen s n keeps [] b a ≡ HandsThen s n keeps [] false a
    go true a is = absurd (cc)
    go false a is = refl
run_more s text n (first ∷ more) keeps is = go (λ t out. run_more t (text ++ out) n more keeps) (rests (seat_at s.seats.seats n)) (step_line s n first) is
  where
    Later : Type 0
    Later = (t : SiteState) (out : List ℕ) → run_from t (text ++ out) n more ≡ None → run_hands t n (more ++ keeps ∷ []) ≡ run_hands t n more ++ step_hands (after_steps t n more) n (keeps ∷ [])

    go : Later → (b : Bool) (a : Answer SiteState) → RunThen s text n more b a ≡ None → HandsThen s n first (more ++ keeps ∷ []) b a ≡ HandsThen s n first more b a ++ step_hands (StepsThen s n more b a) n (keeps ∷ [])
    go later true a is = absurd (cc)
    go later false Refused is = absurd (cc)
    go later false (Done t out) is =
        let writes : List RowWrite = writes_by (seat_at s.seats.seats n) s.boot in
        ap (handed_first writes first) (later t out is) ∙ first_on writes first (run_hands t n more) (step_hands (after_steps t n more) n (keeps ∷ []))

-- its connection goes on there
run_goes_on : (s : SiteState) (text : List ℕ) (n : ℕ) (replies : List Bool) → run_from s text n replies ≡ None → rests (seat_at (after_steps s n replies).seats.seats n) ≡ false
run_goes_on s text n [] is = go (rests (seat_at s.seats.seats n)) is
  where
    go : (b : Bool) → cond b (Some (Done s text)) None ≡ None → b ≡ false
    go true is = absurd (cc)
    go false is = refl
run_goes_on s text n (first ∷ more) is = go (λ t out. run_goes_on t (text ++ out) n more) (rests (seat_at s.seats.seats n)) (step_line s n first) is
  where
    Later : Type 0
    Later = (t : SiteState) (out : List ℕ) → run_from t (text ++ out) n more ≡ None → rests (seat_at (after_steps t n more).seats.seats n) ≡ false

    go : Later → (b : Bool) (a : Answer SiteState) → RunThen s text n more b a ≡ None → rests (seat_at (StepsThen s n more b a).seats.seats n) ≡ false
    go later true a is = absurd (cc)
    go later false Refused is = absurd (cc)
    go later false (Done t out) is = later t out is

run_asks : (s : SiteState) (n : ℕ) (replies : List Bool) → run_line s n replies ≡ None → run_from s [] n replies ≡ None
unfolding run_line
run_asks s n replies is = go (can_run s n) is
  where
    go : (can : Bool) → cond can (run_from s [] n replies) (Some Refused) ≡ None → run_from s [] n replies ≡ None
    go true is = is
    go false is = absurd (cc)

line_more : (s : SiteState) (line : SeatLine) (replies : List Bool) (keeps : Bool) → seat_line s line replies ≡ None → line_hands s line (replies ++ keeps ∷ []) ≡ line_hands s line replies ++ next_hands (steps_made s line replies) line keeps
line_more s (seats.Conn n) replies keeps asks = absurd (cc)
line_more s (seats.Bytes n bytes) replies keeps asks = absurd (cc)
line_more s (seats.End n) replies keeps asks = absurd (cc)
line_more s (seats.Step n) [] keeps asks = refl
line_more s (seats.Step n) (first ∷ more) keeps asks = absurd (cc)
line_more s (seats.Run n) replies keeps asks = run_more s [] n replies keeps (run_asks s n replies asks)

-- the calls of a line with one reply more

seat_more : (r : RunningState) (line : SeatLine) (replies : List Bool) (keeps : Bool) (mid : State) → Waits r line replies mid → seat_calls r line (replies ++ keeps ∷ []) ≡ seat_calls r line replies ++ next_calls mid (Some (lines.Seat line)) keeps
unfolding seat_calls next_calls
seat_more r line replies keeps mid h =
    subst (λ (m : State). seat_calls r line (replies ++ keeps ∷ []) ≡ seat_calls r line replies ++ next_calls m (Some (lines.Seat line)) keeps) (sym h.mid_is) (go r.site h.site)
  where
    s : SiteState
    s = site_of r

    t : SiteState
    t = steps_made s line replies

    all : handed_calls (line_hands s line (replies ++ keeps ∷ [])) ≡ handed_calls (line_hands s line replies) ++ next_calls_over (with_site r t) line keeps
    all =
        ap handed_calls (line_more s line replies keeps h.asks)
        ∙ (handed-append (line_hands s line replies) (next_hands t line keeps)
        ∙ ap (λ (calls : List KeeperCall). handed_calls (line_hands s line replies) ++ calls) (sym (next_over (with_site r t) line keeps)))

    go : (site : Bool) → site ≡ true → cond site (handed_calls (line_hands s line (replies ++ keeps ∷ []))) [] ≡ cond site (handed_calls (line_hands s line replies)) [] ++ next_calls_over (with_site r t) line keeps
    go true is = all
    go false is = absurd (cc)

over_more : (r : RunningState) (line : Line) (replies : Replies) (keeps : Bool) (mid : State) → WaitsOver r line replies.keeps mid → calls_on (TheBoot r) line (with_reply replies keeps) ≡ calls_on (TheBoot r) line replies ++ next_calls mid (Some line) keeps
over_more r line replies keeps mid h =
    subst (λ (l : Line). calls_on (TheBoot r) l (with_reply replies keeps) ≡ calls_on (TheBoot r) l replies ++ next_calls mid (Some l) keeps) (sym h.line_is) (seat_more r h.seat replies.keeps keeps mid h.waits)

on_more : (target : Target) (line : Line) (replies : Replies) (keeps : Bool) (mid : State) → WaitsOn target line replies.keeps mid → calls_on target line (with_reply replies keeps) ≡ calls_on target line replies ++ next_calls mid (Some line) keeps
on_more target line replies keeps mid h =
    subst (λ (t : Target). calls_on t line (with_reply replies keeps) ≡ calls_on t line replies ++ next_calls mid (Some line) keeps) (sym h.target_is) (over_more h.running line replies keeps mid h.over)

-- what a line waits for that is under way
line_waits : (s mid : State) (line : Line) (replies : Replies) → step s line replies ≡ UnderWayIn mid → WaitsOn (target_of s (is_event line) replies.first) line replies.keeps mid
unfolding step
line_waits s mid line replies is = on_waits (target_of s (is_event line) replies.first) line replies mid is

-- Where a line is under way, one reply more adds the calls of its next step.
pub calls_more : (s mid : State) (line : Option Line) (replies : Replies) (keeps : Bool) → answer_to s line replies ≡ UnderWayIn mid → calls_to s line (with_reply replies keeps) ≡ calls_to s line replies ++ next_calls mid line keeps
unfolding line_calls
calls_more s mid None replies keeps is = absurd (cc)
calls_more s mid (Some line) replies keeps is =
    let target : Target = target_of s (is_event line) replies.first in
    let before : List KeeperCall = target_calls s (is_event line) replies.first in
    ap (λ (calls : List KeeperCall). before ++ calls) (on_more target line replies keeps mid (line_waits s mid line replies is))
    ∙ sym (append_assoc before (calls_on target line replies) (next_calls mid (Some line) keeps))

-- a turn that is under way makes one step more

not_asking : (a : Answer SiteState) → Some a ≡ None → ⊥
not_asking a is = cc

step_waits : (s : SiteState) (n : ℕ) (replies : List Bool) → seat_line s (seats.Step n) replies ≡ None → replies ≡ []
step_waits s n [] asks = refl
step_waits s n (first ∷ more) asks = absurd (not_asking (step_line s n first) asks)

waits_more : (turn : Turn) (mid : State) (r : RunningState) (line : SeatLine) → line_of turn.line ≡ Some (lines.Seat line) → Waits r line turn.replies.keeps mid → MakesOneMore turn mid
waits_more turn mid r (seats.Conn n) spells h = absurd (not_asking (conn_line (site_of r) n) h.asks)
waits_more turn mid r (seats.Bytes n bytes) spells h = absurd (not_asking (bytes_line (site_of r) n bytes) h.asks)
waits_more turn mid r (seats.End n) spells h = absurd (not_asking (end_line (site_of r) n) h.asks)
waits_more turn mid r (seats.Step n) spells h = record {
  number = n;
  running = with_site r (site_of r);
  state_is = h.mid_is;
  goes_on = inl (spells, step_waits (site_of r) n turn.replies.keeps h.asks);
}
waits_more turn mid r (seats.Run n) spells h = record {
  number = n;
  running = with_site r (after_steps (site_of r) n turn.replies.keeps);
  state_is = h.mid_is;
  goes_on = inr (spells, run_goes_on (site_of r) [] n turn.replies.keeps (run_asks (site_of r) n turn.replies.keeps h.asks));
}

pub turn_waits : (s mid : State) (turn : Turn) → turn_outcome s turn ≡ UnderWayIn mid → MakesOneMore turn mid
unfolding turn_outcome
turn_waits s mid turn is = go (line_of turn.line) refl is
  where
    go : (o : Option Line) → line_of turn.line ≡ o → answer_to s o turn.replies ≡ UnderWayIn mid → MakesOneMore turn mid
    go None spells is = absurd (cc)
    go (Some line) spells is =
        let h = line_waits s mid line turn.replies is in
        waits_more turn mid h.running h.over.seat (spells ∙ ap (λ (l : Line). Some l) h.over.line_is) h.over.waits

-- the calls of one step: one at most

abbrev IsOneAtMost : List KeeperCall → Type 0
IsOneAtMost calls = (calls ≡ []) ⊎ ((call : KeeperCall) × (calls ≡ call ∷ []))

kept_one : (writes : List RowWrite) (keeps : Bool) → IsOneAtMost (handed_calls (handed_first writes keeps []))
kept_one [] keeps = inl refl
kept_one (w ∷ ws) true = inr (Kept (w ∷ ws), refl)
kept_one (w ∷ ws) false = inr (Failed, refl)

step_one : (r : RunningState) (n : ℕ) (keeps : Bool) → IsOneAtMost (step_calls r n keeps)
step_one r n keeps = go (step_line (site_of r) n keeps)
  where
    go : (a : Answer SiteState) → IsOneAtMost (handed_calls (HandsThen (site_of r) n keeps [] false a))
    go Refused = inl refl
    go (Done t out) = kept_one (writes_by (seat_at r.seats.seats n) r.boot) keeps

next_one : (s : State) (line : Option Line) (keeps : Bool) → IsOneAtMost (next_calls s line keeps)
unfolding next_calls
next_one s None keeps = inl refl
next_one (Heading head) (Some line) keeps = inl refl
next_one (Running r) (Some lines.Pass) keeps = inl refl
next_one (Running r) (Some (lines.Head line)) keeps = inl refl
next_one (Running r) (Some (lines.Call caller line)) keeps = inl refl
next_one (Running r) (Some (lines.Commit caller)) keeps = inl refl
next_one (Running r) (Some (lines.Boot line)) keeps = inl refl
next_one (Running r) (Some lines.Reopen) keeps = inl refl
next_one (Running r) (Some (lines.Session line)) keeps = inl refl
next_one (Running r) (Some (lines.Seat (seats.Conn n))) keeps = inl refl
next_one (Running r) (Some (lines.Seat (seats.Bytes n bytes))) keeps = inl refl
next_one (Running r) (Some (lines.Seat (seats.End n))) keeps = inl refl
next_one (Running r) (Some (lines.Seat (seats.Step n))) keeps = step_one r n keeps
next_one (Running r) (Some (lines.Seat (seats.Run n))) keeps = step_one r n keeps

-- some of one call are none of it, or all

none_before : (made more : List KeeperCall) → made ++ more ≡ [] → made ≡ []
none_before [] more is = refl
none_before (call ∷ made) more is = absurd (cc)

whole_or_none : (calls made more : List KeeperCall) → IsOneAtMost calls → calls ≡ made ++ more → (made ≡ []) ⊎ (made ≡ calls)
whole_or_none calls [] more one begins = inl refl
whole_or_none calls (call ∷ made) more (inl none) begins = absurd (cc)
whole_or_none calls (call ∷ made) more (inr (only, is)) begins =
    let rest : made ++ more ≡ [] = cc in
    let empty : made ≡ [] = none_before made more rest in
    inr (let same : call ∷ made ≡ calls = cc in same)

none_asked : (calls : List KeeperCall) (old new : KeeperSeen) (h : AreSomeAsked calls old new) → h.made ≡ [] → AreSomeAsked [] old new
none_asked calls old new h none = record {
  made = [];
  more = [];
  begins = refl;
  between = h.between;
  told = subst (λ (made : List KeeperCall). TellsCalls made old.told h.between) none h.told;
  last = by h.last;
  counted = subst (λ (made : List KeeperCall). AreCounted made old.faults new.faults) none h.counted;
}
  where
    none_made : List KeeperCall
    none_made = []

    by : ((new.told ≡ h.between) ⊎ ((h.made ≡ []) × TellsRefusal faults.OutOfMemory h.between new.told)) → (new.told ≡ h.between) ⊎ ((none_made ≡ []) × TellsRefusal faults.OutOfMemory h.between new.told)
    by (inl same) = inl same
    by (inr (first, tells)) = inr (refl, tells)

all_asked : (calls : List KeeperCall) (old new : KeeperSeen) (h : AreSomeAsked calls old new) → h.made ≡ calls → new.told ≡ h.between → AreMade calls old new
all_asked calls old new h all same = record {
  told = subst (λ (o : Option KeeperTold). TellsCalls calls old.told o) (sym same) (subst (λ (made : List KeeperCall). TellsCalls made old.told h.between) all h.told);
  counted = subst (λ (made : List KeeperCall). AreCounted made old.faults new.faults) all h.counted;
}

asked_whole : (calls : List KeeperCall) (old new : KeeperSeen) → IsOneAtMost calls → AreSomeAsked calls old new → AreSomeAsked [] old new ⊎ AreMade calls old new
asked_whole calls old new one h = go (whole_or_none calls h.made h.more one h.begins) h.last
  where
    go : (h.made ≡ []) ⊎ (h.made ≡ calls) → ((new.told ≡ h.between) ⊎ ((h.made ≡ []) × TellsRefusal faults.OutOfMemory h.between new.told)) → AreSomeAsked [] old new ⊎ AreMade calls old new
    go (inl none) last = inl (none_asked calls old new h none)
    go (inr all) (inl same) = inr (all_asked calls old new h all same)
    go (inr all) (inr (none, tells)) = inl (none_asked calls old new h none)

-- Where the first calls of the next step were made, none was, or all were.
pub next_whole : (s : State) (line : Option Line) (keeps : Bool) (old new : KeeperSeen) → AreSomeAsked (next_calls s line keeps) old new → AreSomeAsked [] old new ⊎ AreMade (next_calls s line keeps) old new
next_whole s line keeps old new h = asked_whole (next_calls s line keeps) old new (next_one s line keeps) h
