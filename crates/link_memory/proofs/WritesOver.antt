-- A write over the link goes by the rule.
use Rattle.std.proofs.Common.{arith, ◌≡◌, ◌∙◌, ap, sym, refl, subst, ℕ, zero, suc, ◌+◌, ◌-◌, ◌<◌, Bool, true, false, IsTrue, nat_le, if◌then◌else◌, List, [], ◌∷◌, ◌++◌, length, map, take, filter_map, Option, Some, None, position, slice_get, slice_set, Ok, length-append}
use Rattle.std.specs.List.{cons_option}
use Rattle.std.specs.Option.{option_and_then, option_or}
use Rattle.std.proofs.lemmas.Bool.{leb-true, leb-false}
use Rattle.std.proofs.lemmas.List.Elements.{All-head, All-tail, filter_map-append}
use Rattle.crash_base.specs.declared.numbers.BrickNo.{BrickNo}
use Rattle.outside.specs.Link.{Made}
use Rattle.session_cookie.specs.declared.cookie.Cookie.{Cookie}
use Rattle.session_cookie.specs.declared.cookie.Holder.{Holder}
use Rattle.ssm_frames.specs.declared.frame.Frame.{Frame}
use Rattle.ssm_stub.specs.declared.ask.Ask.{Ask}
use Rattle.ssm_stub.specs.declared.ask.Turn.{Turn}
use Rattle.ssm_stub.specs.declared.ear.Stage.{Stage}
use Rattle.ssm_stub.specs.declared.ear.Stage.TheVariants.{Unasked, Asked}
use Rattle.ssm_stub.specs.declared.ear.Outcome.TheVariants.{Answered, Silent, Strayed}
use Rattle.ssm_stub.specs.declared.ear.Ear.{Ear}
use Rattle.ssm_stub.specs.declared.ear.Ear.TheVariants.{Open, Heard}
use Rattle.ssm_stub.specs.declared.event.StubEvent.{StubEvent}
use Rattle.ssm_stub.specs.declared.event.StubEvent.TheVariants as event
use Rattle.ssm_stub.specs.declared.event.StubNext.{StubNext}
use Rattle.ssm_stub.specs.declared.event.StubNext.TheVariants.{Ended}
use Rattle.ssm_stub.specs.declared.reply.WriteReply.{WriteReply}
use Rattle.ssm_stub.specs.declared.reply.WriteReply.TheVariants.{Stored, Full}
use Rattle.ssm_stub.specs.Ears.{heard}
use Rattle.ssm_stub.specs.Turns.{none_asked, is_unasked, is_asked, is_open, turn_with, turn_at, turn_after_asks, with_ear_of, asks_after, wanted_of, wanted, next_unless}
use Rattle.ssm_stub.specs.Runs.{told_of, fits, Fits, call_of, calls, after, Ran}
use Rattle.ssm_stub.specs.Writes.{WriteState, put_lawful, holder_by, holder_of, cause_of, missed_unless, write_answer, write_until}
use Rattle.link_memory.specs.InOrder.{Over, asked_over, asked_in_order, heard_out, with_ask, missing_after, heard_in_order, write_over}
use Rattle.link_memory.specs.Script.{ScriptValue, ScriptMakes}
use Rattle.link_memory.proofs.Asking.{nothing_fits}
use Rattle.link_memory.proofs.HearingOn.{heard_rest, ask_step, hear_step}
use Rattle.link_memory.proofs.OneByOne.{ask_rest, prepend, once_asked, ask_passes, all_asked, told_once, just_asked, asks_start, open_or_not, was_unasked, was_asked, wants_none}
use Rattle.link_memory.proofs.Places.{NonePass, Placed, placed, none_placed, get_there, set_there, of_parts, of_front, of_both}
use Rattle.link_memory.proofs.Steps.{made_split}
use Rattle.link_memory.proofs.Turns.{writes}

abbrev Asks : Type 0
Asks = List (Ask BrickNo WriteReply)

-- what is still heard of bricks, until so many more have stored the value
abbrev hear_left : (BrickNo → Frame → Option WriteReply) → ℕ → Asks → ScriptValue → Over Asks
hear_left lawful zero asks link = record { heard = asks; link = link }
hear_left lawful (suc missing) [] link = record { heard = []; link = link }
hear_left lawful (suc missing) (a ∷ asks) link =
    with_ask a.who (heard_rest (lawful a.who) a.who a.ear link).heard
    (hear_left lawful (missing_after a.ear (heard_rest (lawful a.who) a.who a.ear link).heard (suc missing)) asks (heard_rest (lawful a.who) a.who a.ear link).link)

-- what is still asked and heard
abbrev finish : (BrickNo → Frame → Option WriteReply) → List ℕ → ℕ → Asks → ScriptValue → Over Asks
finish lawful ask zero asks link = record { heard = asks; link = link }
finish lawful ask (suc missing) asks link = hear_left lawful (suc missing) (ask_rest ask asks link).heard (ask_rest ask asks link).link

-- what is missing after one came to this does not depend on how it was open
missing_open : (stage later : Stage) (ear : Ear WriteReply) (missing : ℕ) → missing_after (Open stage) ear missing ≡ missing_after (Open later) ear missing
missing_open stage later (Open other) missing = refl
missing_open stage later (Heard (Answered (Stored incarnation))) missing = refl
missing_open stage later (Heard (Answered (Full entries bytes))) missing = refl
missing_open stage later (Heard Silent) missing = refl
missing_open stage later (Heard Strayed) missing = refl

closed_heard : (who : BrickNo) (lawful : Frame → Option WriteReply) (ear : Ear WriteReply) (link : ScriptValue) → is_open (record { who = who; ear = ear }) ≡ false → heard_rest lawful who ear link ≡ record { heard = ear; link = link }
closed_heard who lawful (Open stage) link h = absurd cc
closed_heard who lawful (Heard outcome) link h = refl

closed_missing : (who : BrickNo) (ear other : Ear WriteReply) (missing : ℕ) → is_open (record { who = who; ear = ear }) ≡ false → missing_after ear other missing ≡ missing
closed_missing who (Open stage) other missing h = absurd cc
closed_missing who (Heard outcome) other missing h = refl

module _ (lawful : BrickNo → Frame → Option WriteReply) (ask : List ℕ) where
  first_closed : (missing : ℕ) (a : Ask BrickNo WriteReply) (asks : Asks) (link : ScriptValue) → is_open a ≡ false → hear_left lawful (suc missing) (a ∷ asks) link ≡ with_ask a.who a.ear (hear_left lawful (suc missing) asks link)
  first_closed missing a asks link closed =
      ap (λ (o : Over (Ear WriteReply)). with_ask a.who o.heard (hear_left lawful (missing_after a.ear o.heard (suc missing)) asks o.link)) (closed_heard a.who (lawful a.who) a.ear link closed)
      ∙ ap (λ n. with_ask a.who a.ear (hear_left lawful n asks link)) (closed_missing a.who a.ear a.ear (suc missing) closed)

  passes : (missing : ℕ) (before rest : Asks) (link : ScriptValue) → NonePass is_open before → hear_left lawful missing (before ++ rest) link ≡ prepend before (hear_left lawful missing rest link)
  passes zero before rest link closed = refl
  passes (suc missing) [] rest link closed = refl
  passes (suc missing) (a ∷ before) rest link closed =
      first_closed missing a (before ++ rest) link (All-head (λ (x : Ask BrickNo WriteReply). is_open x ≡ false) a before closed)
      ∙ ap (with_ask a.who a.ear) (passes (suc missing) before rest link (All-tail (λ (x : Ask BrickNo WriteReply). is_open x ≡ false) a before closed))

  all_closed : (missing : ℕ) (asks : Asks) (link : ScriptValue) → NonePass is_open asks → hear_left lawful missing asks link ≡ record { heard = asks; link = link }
  all_closed zero asks link closed = refl
  all_closed (suc missing) [] link closed = refl
  all_closed (suc missing) (a ∷ asks) link closed =
      first_closed missing a asks link (All-head (λ (x : Ask BrickNo WriteReply). is_open x ≡ false) a asks closed)
      ∙ ap (with_ask a.who a.ear) (all_closed (suc missing) asks link (All-tail (λ (x : Ask BrickNo WriteReply). is_open x ≡ false) a asks closed))

  -- where all were asked, they are heard
  only_heard : (missing : ℕ) (asks : Asks) (link : ScriptValue) → NonePass is_unasked asks → finish lawful ask missing asks link ≡ hear_left lawful missing asks link
  only_heard zero asks link all = refl
  only_heard (suc missing) asks link all = ap (λ (o : Over Asks). hear_left lawful (suc missing) o.heard o.link) (all_asked ask asks link all)

  -- one that was asked, behind those with an outcome
  one_heard : (missing : ℕ) (who : BrickNo) (ear : Ear WriteReply) (strays : ℕ) (behind : Asks) (link : ScriptValue) → is_unasked (record { who = who; ear = ear }) ≡ false
      → hear_left lawful (missing_after (Open (Asked strays)) ear (suc missing)) (record { who = who; ear = ear } ∷ behind) link
      ≡ with_ask who (heard_rest (lawful who) who ear link).heard (hear_left lawful (missing_after (Open (Asked strays)) (heard_rest (lawful who) who ear link).heard (suc missing)) behind (heard_rest (lawful who) who ear link).link)
  one_heard missing who (Open Unasked) strays behind link h = absurd cc
  one_heard missing who (Open (Asked more)) strays behind link h =
      let over = heard_rest (lawful who) who (Open (Asked more)) link in
      ap (λ n. with_ask who over.heard (hear_left lawful n behind over.link)) (missing_open (Asked more) (Asked strays) over.heard (suc missing))
  one_heard missing who (Heard outcome) strays behind link h = go (missing_after (Open (Asked strays)) (Heard outcome) (suc missing)) where
    go : (n : ℕ) → hear_left lawful n (record { who = who; ear = Heard outcome } ∷ behind) link ≡ with_ask who (Heard outcome) (hear_left lawful n behind link)
    go zero = refl
    go (suc n) = refl

  -- The turn of one that was not asked.
  asks_on : (missing : ℕ) (before : Asks) (who : BrickNo) (behind : Asks) (e : StubEvent) (link mid : ScriptValue) → NonePass is_unasked before → IsTrue (fits (wanted_of who Unasked) (told_of e)) → Made ScriptMakes link (call_of ask (wanted_of who Unasked) e) mid
      → finish lawful ask (suc missing) (before ++ record { who = who; ear = Open Unasked } ∷ behind) link ≡ finish lawful ask (suc missing) (before ++ record { who = who; ear = heard (lawful who) Unasked (told_of e) } ∷ behind) mid
  asks_on missing before who behind e link mid all fit made =
      let y = heard (lawful who) Unasked (told_of e) in
      let F : Over (Ear WriteReply) → Over Asks = λ o. with_ask who o.heard (ask_rest ask behind o.link) in
      let asked : ask_rest ask (before ++ record { who = who; ear = Open Unasked } ∷ behind) link ≡ ask_rest ask (before ++ record { who = who; ear = y } ∷ behind) mid =
      ask_passes ask before (record { who = who; ear = Open Unasked } ∷ behind) link all
      ∙ (ap (prepend before) (ap F (ask_step (lawful who) ask who e link mid fit made ∙ sym (once_asked BrickNo who ask who y mid (told_once BrickNo who (lawful who) who Unasked e fit))))
      ∙ sym (ask_passes ask before (record { who = who; ear = y } ∷ behind) mid all)) in
      ap (λ (o : Over Asks). hear_left lawful (suc missing) o.heard o.link) asked

  -- The turn of one that was asked.
  hears_on : (missing : ℕ) (before : Asks) (who : BrickNo) (strays : ℕ) (behind : Asks) (e : StubEvent) (link mid : ScriptValue) → NonePass is_unasked (before ++ record { who = who; ear = Open (Asked strays) } ∷ behind) → NonePass is_open before → IsTrue (fits (wanted_of who (Asked strays)) (told_of e)) → Made ScriptMakes link (call_of ask (wanted_of who (Asked strays)) e) mid
      → finish lawful ask (suc missing) (before ++ record { who = who; ear = Open (Asked strays) } ∷ behind) link
      ≡ finish lawful ask (missing_after (Open (Asked strays)) (heard (lawful who) (Asked strays) (told_of e)) (suc missing)) (before ++ record { who = who; ear = heard (lawful who) (Asked strays) (told_of e) } ∷ behind) mid
  hears_on missing before who strays behind e link mid all closed fit made =
      let x : Ask BrickNo WriteReply = record { who = who; ear = Open (Asked strays) } in
      let ear = heard (lawful who) (Asked strays) (told_of e) in
      let y : Ask BrickNo WriteReply = record { who = who; ear = ear } in
      let left = missing_after (Open (Asked strays)) ear (suc missing) in
      let told = told_once BrickNo who (lawful who) who (Asked strays) e fit in
      let F : Over (Ear WriteReply) → Over Asks = λ o. with_ask who o.heard (hear_left lawful (missing_after (Open (Asked strays)) o.heard (suc missing)) behind o.link) in
      only_heard (suc missing) (before ++ x ∷ behind) link all
      ∙ (passes (suc missing) before (x ∷ behind) link closed
      ∙ (ap (prepend before) (ap F (hear_step (lawful who) ask who strays e link mid fit made) ∙ sym (one_heard missing who ear strays behind mid told))
      ∙ (sym (passes left before (y ∷ behind) mid closed)
      ∙ sym (only_heard left (before ++ y ∷ behind) mid (of_parts (λ (a : Ask BrickNo WriteReply). is_unasked a ≡ false) before x y behind all told)))))

-- how many have stored the value
abbrev stored : Asks → ℕ
stored asks = length (filter_map holder_of asks)

stored_here : BrickNo → Ear WriteReply → ℕ
stored_here who ear = length (cons_option (holder_by who ear) [])

count_parts : (before : Asks) (a : Ask BrickNo WriteReply) (behind : Asks) → stored (before ++ a ∷ behind) ≡ stored before + (stored_here a.who a.ear + stored behind)
unfolding stored_here
count_parts before a behind =
    ap length (filter_map-append holder_of before (a ∷ behind))
    ∙ (length-append (filter_map holder_of before) (filter_map holder_of (a ∷ behind))
    ∙ ap (λ n. stored before + n) (go (holder_by a.who a.ear)))
  where
    go : (o : Option Holder) → length (cons_option o (filter_map holder_of behind)) ≡ length (cons_option o []) + stored behind
    go None = omega arith
    go (Some holder) = omega arith

-- what is missing after one came to an outcome
count_on : (least : ℕ) (before : Asks) (who : BrickNo) (stage : Stage) (ear : Ear WriteReply) (behind : Asks) → least - stored (before ++ record { who = who; ear = ear } ∷ behind) ≡ missing_after (Open stage) ear (least - stored (before ++ record { who = who; ear = Open stage } ∷ behind))
unfolding stored_here
count_on least before who stage ear behind = go ear where
  old : stored (before ++ record { who = who; ear = Open stage } ∷ behind) ≡ stored before + (0 + stored behind)
  old = count_parts before (record { who = who; ear = Open stage }) behind

  go : (y : Ear WriteReply) → least - stored (before ++ record { who = who; ear = y } ∷ behind) ≡ missing_after (Open stage) y (least - stored (before ++ record { who = who; ear = Open stage } ∷ behind))
  go (Open later) = (let h = count_parts before (record { who = who; ear = Open later }) behind in let k = old in omega arith)
  go (Heard (Answered (Stored incarnation))) = (let h : stored (before ++ record { who = who; ear = Heard (Answered (Stored incarnation)) } ∷ behind) ≡ stored before + (1 + stored behind) = count_parts before (record { who = who; ear = Heard (Answered (Stored incarnation)) }) behind in let k = old in omega arith)
  go (Heard (Answered (Full entries bytes))) = (let h : stored (before ++ record { who = who; ear = Heard (Answered (Full entries bytes)) } ∷ behind) ≡ stored before + (0 + stored behind) = count_parts before (record { who = who; ear = Heard (Answered (Full entries bytes)) }) behind in let k = old in omega arith)
  go (Heard Silent) = (let h : stored (before ++ record { who = who; ear = Heard Silent } ∷ behind) ≡ stored before + (0 + stored behind) = count_parts before (record { who = who; ear = Heard Silent }) behind in let k = old in omega arith)
  go (Heard Strayed) = (let h : stored (before ++ record { who = who; ear = Heard Strayed } ∷ behind) ≡ stored before + (0 + stored behind) = count_parts before (record { who = who; ear = Heard Strayed }) behind in let k = old in omega arith)

-- nothing is stored by the ask alone
none_stored : (missing : ℕ) (who : BrickNo) (lawful : Frame → Option WriteReply) (e : StubEvent) → IsTrue (fits (wanted_of who Unasked) (told_of e)) → suc missing ≡ missing_after (Open Unasked) (heard lawful Unasked (told_of e)) (suc missing)
none_stored missing who lawful event.Sent fit = refl
none_stored missing who lawful (event.Frame bytes) fit = absurd cc
none_stored missing who lawful event.Silent fit = refl

-- the place of the turn, where there is one
module _ (asks : Asks) where
  turn_unasked : (at : ℕ) (p : Placed is_unasked asks at) → position is_unasked asks ≡ Some at → p.item.ear ≡ Open Unasked → turn_after_asks asks ≡ Some (record { at = at; who = p.item.who; stage = Unasked })
  turn_unasked at p e is =
      let there : slice_get asks at ≡ Some p.item = ap (slice_get asks) p.long ∙ (ap (λ xs. slice_get xs (length p.before)) p.parts ∙ get_there p.before p.item p.behind) in
      ap (λ o. option_and_then (turn_at asks) (option_or o (position is_asked asks))) e
      ∙ (ap (option_and_then (λ (a : Ask BrickNo WriteReply). turn_with at a a.ear)) there ∙ ap (turn_with at p.item) is)

  turn_asked : (at : ℕ) (p : Placed is_asked asks at) (strays : ℕ) → position is_unasked asks ≡ None → position is_asked asks ≡ Some at → p.item.ear ≡ Open (Asked strays) → turn_after_asks asks ≡ Some (record { at = at; who = p.item.who; stage = Asked strays })
  turn_asked at p strays none e is =
      let there : slice_get asks at ≡ Some p.item = ap (slice_get asks) p.long ∙ (ap (λ xs. slice_get xs (length p.before)) p.parts ∙ get_there p.before p.item p.behind) in
      ap (λ o. option_and_then (turn_at asks) (option_or o (position is_asked asks))) none
      ∙ (ap (λ o. option_and_then (turn_at asks) o) e
      ∙ (ap (option_and_then (λ (a : Ask BrickNo WriteReply). turn_with at a a.ear)) there ∙ ap (turn_with at p.item) is))

  turn_none : position is_unasked asks ≡ None → position is_asked asks ≡ None → turn_after_asks asks ≡ None
  turn_none h k = ap (λ o. option_and_then (turn_at asks) (option_or o (position is_asked asks))) h ∙ ap (option_and_then (turn_at asks)) k

  told_at : {p : Ask BrickNo WriteReply → Bool} (lawful : BrickNo → Frame → Option WriteReply) (e : StubEvent) (at : ℕ) (here : Placed p asks at) (stage : Stage)
      → asks_after lawful (told_of e) asks (Some (record { at = at; who = here.item.who; stage = stage })) ≡ here.before ++ record { who = here.item.who; ear = heard (lawful here.item.who) stage (told_of e) } ∷ here.behind
  told_at lawful e at here stage =
      let new : Ask BrickNo WriteReply = record { who = here.item.who; ear = heard (lawful here.item.who) stage (told_of e) } in
      let there : slice_get asks at ≡ Some here.item = ap (slice_get asks) here.long ∙ (ap (λ xs. slice_get xs (length here.before)) here.parts ∙ get_there here.before here.item here.behind) in
      ap (with_ear_of asks at new.ear) there
      ∙ (ap (λ i. slice_set asks i new) here.long ∙ (ap (λ xs. slice_set xs (length here.before) new) here.parts ∙ set_there here.before here.item new here.behind))

  -- none has the turn where each was heard
  none_open : position is_unasked asks ≡ None → position is_asked asks ≡ None → NonePass is_open asks
  none_open h k = of_both (λ (x : Ask BrickNo WriteReply). is_unasked x ≡ false) (λ (x : Ask BrickNo WriteReply). is_asked x ≡ false) (λ (x : Ask BrickNo WriteReply). is_open x ≡ false) (λ x. open_or_not BrickNo x.who x.ear) asks (none_placed is_unasked asks h) (none_placed is_asked asks k)

module _ (s : WriteState) (ask : List ℕ) where
  abbrev lawful_of : BrickNo → Frame → Option WriteReply
  lawful_of = put_lawful s.nonce s.key

  -- what is still done of a write
  abbrev left : Asks → ScriptValue → Over Asks
  left asks link = finish lawful_of ask (s.least - stored asks) asks link

  abbrev cookie_of : Asks → Cookie
  cookie_of asks = record { key = s.key; version = s.nonce; expiry = s.expiry; bricks = take s.least (filter_map holder_of asks) }

  enough : (asks : Asks) → nat_le s.least (stored asks) ≡ true → write_answer (writes s asks) ≡ Some (Ok (cookie_of asks))
  enough asks h = ap (λ c. if c then Some (Ok (cookie_of asks)) else missed_unless (turn_after_asks asks) (filter_map cause_of asks)) h

  too_few : (asks : Asks) → nat_le s.least (stored asks) ≡ false → write_answer (writes s asks) ≡ missed_unless (turn_after_asks asks) (filter_map cause_of asks)
  too_few asks h = ap (λ c. if c then Some (Ok (cookie_of asks)) else missed_unless (turn_after_asks asks) (filter_map cause_of asks)) h

  next_enough : (asks : Asks) → nat_le s.least (stored asks) ≡ true → write_until.next (writes s asks) ≡ Ended
  next_enough asks h = ap (λ o. next_unless o (wanted (λ (brick : BrickNo). brick) (turn_after_asks asks))) (enough asks h)

  next_few : (asks : Asks) (turn : Option (Turn BrickNo)) → nat_le s.least (stored asks) ≡ false → turn_after_asks asks ≡ turn → write_until.next (writes s asks) ≡ wanted (λ (brick : BrickNo). brick) turn
  next_few asks turn h is =
      ap (λ o. next_unless o (wanted (λ (brick : BrickNo). brick) (turn_after_asks asks))) (too_few asks h)
      ∙ (ap (λ t. next_unless (missed_unless t (filter_map cause_of asks)) (wanted (λ (brick : BrickNo). brick) t)) is ∙ go turn)
    where
      go : (t : Option (Turn BrickNo)) → next_unless (missed_unless t (filter_map cause_of asks)) (wanted (λ (brick : BrickNo). brick) t) ≡ wanted (λ (brick : BrickNo). brick) t
      go None = refl
      go (Some t) = refl

  -- some are missing
  more_than : (n m : ℕ) → m < n → (k : ℕ) → n - m ≡ k → (few : ℕ) × (n - m ≡ suc few)
  more_than n m below zero is = absurd (omega arith)
  more_than n m below (suc few) is = (few, is)

  abbrev Goes : Asks → StubEvent → ScriptValue → ScriptValue → Type 0
  Goes asks e link mid = left asks link ≡ left (asks_after lawful_of (told_of e) asks (turn_after_asks asks)) mid

  step : (asks : Asks) (e : StubEvent) (link mid : ScriptValue) → IsTrue (fits (write_until.next (writes s asks)) (told_of e)) → Made ScriptMakes link (call_of ask (write_until.next (writes s asks)) e) mid → Goes asks e link mid
  step asks e link mid fit made = go (nat_le s.least (stored asks)) refl (position is_unasked asks) refl (position is_asked asks) refl where
    nobody : write_until.next (writes s asks) ≡ Ended → ⊥
    nobody none = nothing_fits (told_of e) (let P : StubNext → Type 0 = λ next. IsTrue (fits next (told_of e)) in subst P none fit)

    -- the one of this stage has the turn
    on : (missing : ℕ) (before behind : Asks) (who : BrickNo) (stage : Stage) → s.least - stored asks ≡ suc missing → asks ≡ before ++ record { who = who; ear = Open stage } ∷ behind
        → asks_after lawful_of (told_of e) asks (turn_after_asks asks) ≡ before ++ record { who = who; ear = heard (lawful_of who) stage (told_of e) } ∷ behind
        → finish lawful_of ask (suc missing) (before ++ record { who = who; ear = Open stage } ∷ behind) link ≡ finish lawful_of ask (missing_after (Open stage) (heard (lawful_of who) stage (told_of e)) (suc missing)) (before ++ record { who = who; ear = heard (lawful_of who) stage (told_of e) } ∷ behind) mid
        → Goes asks e link mid
    on missing before behind who stage some old_is new_is same =
        let old : Asks = before ++ record { who = who; ear = Open stage } ∷ behind in
        let ear = heard (lawful_of who) stage (told_of e) in
        let new : Asks = before ++ record { who = who; ear = ear } ∷ behind in
        let some_old : s.least - stored old ≡ suc missing = sym (ap (λ xs. s.least - stored xs) old_is) ∙ some in
        let some_new : s.least - stored new ≡ missing_after (Open stage) ear (suc missing) = count_on s.least before who stage ear behind ∙ ap (missing_after (Open stage) ear) some_old in
        ap (λ xs. left xs link) old_is
        ∙ (ap (λ n. finish lawful_of ask n old link) some_old
        ∙ (same
        ∙ (ap (λ n. finish lawful_of ask n new mid) (sym some_new)
        ∙ ap (λ xs. left xs mid) (sym new_is))))

    go : (full : Bool) → nat_le s.least (stored asks) ≡ full → (unasked : Option ℕ) → position is_unasked asks ≡ unasked → (asked : Option ℕ) → position is_asked asks ≡ asked → Goes asks e link mid
    go true is unasked u_is asked a_is = absurd (nobody (next_enough asks is))
    go false is None u_is None a_is = absurd (nobody (next_few asks None is (turn_none asks u_is a_is)))
    go false is (Some at) u_is asked a_is =
        let p = placed is_unasked asks at u_is in
        let ear_is = was_unasked BrickNo p.item.who p.item.ear p.passes in
        let turn : Turn BrickNo = record { at = at; who = p.item.who; stage = Unasked } in
        let now : turn_after_asks asks ≡ Some turn = turn_unasked asks at p u_is ear_is in
        let next : write_until.next (writes s asks) ≡ wanted_of p.item.who Unasked = next_few asks (Some turn) is now in
        let F : StubNext → Type 0 = λ n. IsTrue (fits n (told_of e)) in
        let M : StubNext → Type 0 = λ n. Made ScriptMakes link (call_of ask n e) mid in
        let some = more_than s.least (stored asks) (leb-false s.least (stored asks) is) (s.least - stored asks) refl in
        let old_is = p.parts ∙ ap (λ ear. p.before ++ record { who = p.item.who; ear = ear } ∷ p.behind) ear_is in
        let new_is = ap (asks_after lawful_of (told_of e) asks) now ∙ told_at asks lawful_of e at p Unasked in
        let fit_so = subst F next fit in
        let same = asks_on lawful_of ask some.0 p.before p.item.who p.behind e link mid p.none fit_so (subst M next made) in
        on some.0 p.before p.behind p.item.who Unasked some.1 old_is new_is
        (same ∙ ap (λ n. finish lawful_of ask n (p.before ++ record { who = p.item.who; ear = heard (lawful_of p.item.who) Unasked (told_of e) } ∷ p.behind) mid) (none_stored some.0 p.item.who (lawful_of p.item.who) e fit_so))
    go false is None u_is (Some at) a_is =
        let p = placed is_asked asks at a_is in
        let st = was_asked BrickNo p.item.who p.item.ear p.passes in
        let turn : Turn BrickNo = record { at = at; who = p.item.who; stage = Asked st.strays } in
        let now : turn_after_asks asks ≡ Some turn = turn_asked asks at p st.strays u_is a_is st.is in
        let next : write_until.next (writes s asks) ≡ wanted_of p.item.who (Asked st.strays) = next_few asks (Some turn) is now in
        let F : StubNext → Type 0 = λ n. IsTrue (fits n (told_of e)) in
        let M : StubNext → Type 0 = λ n. Made ScriptMakes link (call_of ask n e) mid in
        let some = more_than s.least (stored asks) (leb-false s.least (stored asks) is) (s.least - stored asks) refl in
        let old : Asks = p.before ++ record { who = p.item.who; ear = Open (Asked st.strays) } ∷ p.behind in
        let old_is : asks ≡ old = p.parts ∙ ap (λ ear. p.before ++ record { who = p.item.who; ear = ear } ∷ p.behind) st.is in
        let new_is = ap (asks_after lawful_of (told_of e) asks) now ∙ told_at asks lawful_of e at p (Asked st.strays) in
        let N : Asks → Type 0 = λ xs. NonePass is_unasked xs in
        let unasked : NonePass is_unasked old = subst N old_is (none_placed is_unasked asks u_is) in
        let before_unasked = of_front (λ (x : Ask BrickNo WriteReply). is_unasked x ≡ false) p.before (record { who = p.item.who; ear = Open (Asked st.strays) } ∷ p.behind) unasked in
        let closed = of_both (λ (x : Ask BrickNo WriteReply). is_unasked x ≡ false) (λ (x : Ask BrickNo WriteReply). is_asked x ≡ false) (λ (x : Ask BrickNo WriteReply). is_open x ≡ false) (λ x. open_or_not BrickNo x.who x.ear) p.before before_unasked p.none in
        on some.0 p.before p.behind p.item.who (Asked st.strays) some.1 old_is new_is
        (hears_on lawful_of ask some.0 p.before p.item.who st.strays p.behind e link mid unasked closed (subst F next fit) (subst M next made))

  -- A run came to these.
  record Ends (asks : Asks) (events : List StubEvent) (link new : ScriptValue) : Type 0 where
    ends : Asks
    is : after write_until (writes s asks) (map told_of events) ≡ writes s ends
    same : left asks link ≡ left ends new

  run : (events : List StubEvent) (asks : Asks) (link new : ScriptValue) → Fits write_until (writes s asks) (map told_of events) → Made ScriptMakes link (calls write_until ask (writes s asks) events) new → Ends asks events link new
  run [] asks link new fit made = record { ends = asks; is = refl; same = ap (left asks) made }
  run (e ∷ events) asks link new fit made =
      let parts = made_split (call_of ask (write_until.next (writes s asks)) e) (calls write_until ask (write_until.hear (writes s asks) (told_of e)) events) link new made in
      let later = run events (asks_after lawful_of (told_of e) asks (turn_after_asks asks)) parts.0 new fit.1 parts.2 in
      record { ends = later.ends; is = later.is; same = step asks e link parts.0 fit.0 parts.1 ∙ later.same }

  at_end : (asks : Asks) (link : ScriptValue) → write_until.next (writes s asks) ≡ Ended → left asks link ≡ record { heard = asks; link = link }
  at_end asks link over = go (nat_le s.least (stored asks)) refl (position is_unasked asks) refl (position is_asked asks) refl where
    go : (full : Bool) → nat_le s.least (stored asks) ≡ full → (unasked : Option ℕ) → position is_unasked asks ≡ unasked → (asked : Option ℕ) → position is_asked asks ≡ asked → left asks link ≡ record { heard = asks; link = link }
    go true is unasked u_is asked a_is = ap (λ n. finish lawful_of ask n asks link) (let l = leb-true s.least (stored asks) is in let e : s.least - stored asks ≡ 0 = omega arith in e)
    go false is None u_is None a_is = only_heard lawful_of ask (s.least - stored asks) asks link (none_placed is_unasked asks u_is) ∙ all_closed lawful_of ask (s.least - stored asks) asks link (none_open asks u_is a_is)
    go false is (Some at) u_is asked a_is = absurd (
        let p = placed is_unasked asks at u_is in
        let now = turn_unasked asks at p u_is (was_unasked BrickNo p.item.who p.item.ear p.passes) in
        wants_none p.item.who Unasked (sym (next_few asks (Some (record { at = at; who = p.item.who; stage = Unasked })) is now) ∙ over))
    go false is None u_is (Some at) a_is = absurd (
        let p = placed is_asked asks at a_is in
        let st = was_asked BrickNo p.item.who p.item.ear p.passes in
        let now = turn_asked asks at p st.strays u_is a_is st.is in
        wants_none p.item.who (Asked st.strays) (sym (next_few asks (Some (record { at = at; who = p.item.who; stage = Asked st.strays })) is now) ∙ over))

-- what was asked is heard in order
starts : (lawful : BrickNo → Frame → Option WriteReply) (ask : List ℕ) (bricks : List BrickNo) (missing : ℕ) (link other : ScriptValue) → hear_left lawful missing (asked_in_order ask bricks link).heard other ≡ heard_in_order lawful missing (asked_in_order ask bricks link).heard other
starts lawful ask bricks zero link other = refl
starts lawful ask [] (suc missing) link other = refl
starts lawful ask (brick ∷ bricks) (suc missing) link other =
    let asked = asked_over {A = WriteReply} ask brick link in
    let F : Over (Ear WriteReply) → Over Asks = λ o. with_ask brick o.heard (hear_left lawful (missing_after asked.heard o.heard (suc missing)) (asked_in_order ask bricks asked.link).heard o.link) in
    let over = heard_out (lawful brick) brick asked.heard other in
    ap F (just_asked (lawful brick) ask brick link other)
    ∙ ap (with_ask brick over.heard) (starts lawful ask bricks (missing_after asked.heard over.heard (suc missing)) asked.link over.link)

none_yet_stored : (bricks : List BrickNo) → stored (none_asked bricks) ≡ 0
none_yet_stored [] = refl
none_yet_stored (brick ∷ bricks) = none_yet_stored bricks

start_over : (lawful : BrickNo → Frame → Option WriteReply) (ask : List ℕ) (least : ℕ) (bricks : List BrickNo) (link : ScriptValue) → finish lawful ask least (none_asked bricks) link ≡ write_over lawful ask least bricks link
start_over lawful ask zero bricks link = refl
start_over lawful ask (suc more) bricks link =
    ap (λ (o : Over Asks). hear_left lawful (suc more) o.heard o.link) (asks_start ask bricks link)
    ∙ starts lawful ask bricks (suc more) link (asked_in_order {A = WriteReply} ask bricks link).link

-- A write over the link that wants nothing more for its answer came to what the rule says.
pub write_by_rule : (s : WriteState) (bricks : List BrickNo) (ask : List ℕ) (events : List StubEvent) (end : WriteState) (old new : ScriptValue) → s.asks ≡ none_asked bricks → Ran write_until ScriptMakes ask s old events end new → write_until.next end ≡ Ended
    → (end ≡ writes s (write_over (put_lawful s.nonce s.key) ask s.least bricks old).heard) × (new ≡ (write_over (put_lawful s.nonce s.key) ask s.least bricks old).link)
write_by_rule s bricks ask events end old new start ran over =
    let lawful = put_lawful s.nonce s.key in
    let came = run s ask events s.asks old new ran.fitting ran.made in
    let end_is : end ≡ writes s came.ends = ran.ends ∙ came.is in
    let P : WriteState → Type 0 = λ e. write_until.next e ≡ Ended in
    let all_missing : s.least - stored (none_asked bricks) ≡ s.least = (let none = none_yet_stored bricks in omega arith) in
    let begins : left s ask s.asks old ≡ write_over lawful ask s.least bricks old = ap (λ xs. left s ask xs old) start ∙ (ap (λ n. finish lawful ask n (none_asked bricks) old) all_missing ∙ start_over lawful ask s.least bricks old) in
    let whole : write_over lawful ask s.least bricks old ≡ record { heard = came.ends; link = new } = sym begins ∙ (came.same ∙ at_end s ask came.ends new (subst P end_is over)) in
    (end_is ∙ ap (λ (o : Over Asks). writes s o.heard) (sym whole), ap (λ (o : Over Asks). o.link) (sym whole))
