-- A read over the link goes by the rule.
use Rattle.std.proofs.Common.{◌≡◌, ◌∙◌, ap, sym, refl, subst, inl, inr, ◌⊎◌, ℕ, Bool, true, false, IsTrue, nat_lt, if◌then◌else◌, List, [], ◌∷◌, ◌++◌, length, map, filter_map, Option, Some, None, position, slice_get, slice_set, Err}
use Rattle.std.specs.Option.{option_and_then}
use Rattle.std.proofs.lemmas.List.Elements.{All-nil, All-cons, All-head, All-tail}
use Rattle.crash_base.specs.declared.numbers.BrickNo.{BrickNo}
use Rattle.outside.specs.Link.{Made}
use Rattle.session_cookie.specs.declared.cookie.Holder.{Holder}
use Rattle.ssm_frames.specs.declared.frame.Frame.{Frame}
use Rattle.ssm_stub.specs.declared.ask.Ask.{Ask}
use Rattle.ssm_stub.specs.declared.ask.Turn.{Turn}
use Rattle.ssm_stub.specs.declared.ear.Stage.{Stage}
use Rattle.ssm_stub.specs.declared.ear.Stage.TheVariants.{Unasked}
use Rattle.ssm_stub.specs.declared.ear.Ear.{Ear}
use Rattle.ssm_stub.specs.declared.ear.Ear.TheVariants.{Open, Heard}
use Rattle.ssm_stub.specs.declared.event.StubEvent.{StubEvent}
use Rattle.ssm_stub.specs.declared.event.StubNext.{StubNext}
use Rattle.ssm_stub.specs.declared.event.StubNext.TheVariants.{Ended}
use Rattle.ssm_stub.specs.declared.read_call.ReadRefusal.TheVariants.{Expired}
use Rattle.ssm_stub.specs.declared.reply.ReadReply.{ReadReply}
use Rattle.ssm_stub.specs.Ears.{heard}
use Rattle.ssm_stub.specs.Turns.{none_asked, is_open, turn_with, turn_at, turn_in_order, with_ear_of, asks_after, wanted_of, wanted}
use Rattle.ssm_stub.specs.Runs.{told_of, fits, Fits, call_of, calls, after, Ran}
use Rattle.ssm_stub.specs.Reads.{ReadState, get_lawful, value_by, value_of, is_found, found_in, loss_of, lost_unless, found_or, read_answer, turn_unless, turn_of_read, read_machine}
use Rattle.link_memory.specs.InOrder.{Over, asked_over, asked_and_heard, with_ask, unless_found, read_in_order, read_over}
use Rattle.link_memory.specs.Script.{ScriptValue, ScriptMakes}
use Rattle.link_memory.proofs.Asking.{nothing_fits}
use Rattle.link_memory.proofs.OneByOne.{rest_of, prepend, rest_step, just_asked, was_open, wants_none}
use Rattle.link_memory.proofs.Places.{NonePass, Placed, placed, none_placed, no_place, get_there, set_there, of_parts, of_front}
use Rattle.link_memory.proofs.Steps.{made_split}
use Rattle.link_memory.proofs.Turns.{reads}

abbrev Asks : Type 0
Asks = List (Ask Holder ReadReply)

-- what is still asked and heard in a read
abbrev read_rest : (Holder → Frame → Option ReadReply) → List ℕ → Asks → ScriptValue → Over Asks
read_rest lawful ask [] link = record { heard = []; link = link }
read_rest lawful ask (a ∷ asks) link =
    with_ask a.who (rest_of (lawful a.who) ask a.who.brick a.ear link).heard
    (unless_found (value_by (rest_of (lawful a.who) ask a.who.brick a.ear link).heard)
    (record { heard = asks; link = (rest_of (lawful a.who) ask a.who.brick a.ear link).link })
    (read_rest lawful ask asks (rest_of (lawful a.who) ask a.who.brick a.ear link).link))

closed_rest : (lawful : Frame → Option ReadReply) (ask : List ℕ) (brick : BrickNo) (who : Holder) (ear : Ear ReadReply) (link : ScriptValue) → is_open (record { who = who; ear = ear }) ≡ false → rest_of lawful ask brick ear link ≡ record { heard = ear; link = link }
closed_rest lawful ask brick who (Open stage) link h = absurd cc
closed_rest lawful ask brick who (Heard outcome) link h = refl

flag : Option (List ℕ) → Bool
flag o = elim o [ None ↦ false | Some value ↦ true ]

no_flag : (o : Option (List ℕ)) → flag o ≡ false → o ≡ None
unfolding flag
no_flag None h = refl
no_flag (Some value) h = absurd cc

no_value : (a : Ask Holder ReadReply) → is_found a ≡ false → value_by a.ear ≡ None
unfolding flag
no_value a h = no_flag (value_by a.ear) h

not_found : (a : Ask Holder ReadReply) → value_by a.ear ≡ None → is_found a ≡ false
unfolding flag
not_found a h = ap flag h

value_closed : (who : Holder) (ear : Ear ReadReply) (value : List ℕ) → value_by ear ≡ Some value → is_open (record { who = who; ear = ear }) ≡ false
value_closed who (Open stage) value h = absurd cc
value_closed who (Heard outcome) value h = refl

value_there : (a : Ask Holder ReadReply) (o : Option (List ℕ)) → value_by a.ear ≡ o → is_found a ≡ true → o ≡ None → ⊥
value_there a o is found none = (let e : false ≡ true = sym (not_found a (is ∙ none)) ∙ found in cc)

-- nothing was found, told by each
found_none : (asks : Asks) → found_in asks ≡ None → NonePass is_found asks
found_none asks h = go (position is_found asks) refl where
  go : (place : Option ℕ) → position is_found asks ≡ place → NonePass is_found asks
  go None e = none_placed is_found asks e
  go (Some at) e =
      let p = placed is_found asks at e in
      let there : slice_get asks at ≡ Some p.item = ap (slice_get asks) p.long ∙ (ap (λ xs. slice_get xs (length p.before)) p.parts ∙ get_there p.before p.item p.behind) in
      let none : value_by p.item.ear ≡ None = sym (ap (option_and_then value_of) there) ∙ (sym (ap (option_and_then (λ i. option_and_then value_of (slice_get asks i))) e) ∙ h) in
      absurd (value_there p.item (value_by p.item.ear) refl p.passes none)

none_found : (asks : Asks) → NonePass is_found asks → found_in asks ≡ None
none_found asks all = ap (option_and_then (λ i. option_and_then value_of (slice_get asks i))) (no_place is_found asks all)

one_way : {X : Type 0} (o : Option (List ℕ)) (x : X) → unless_found o x x ≡ x
one_way None x = refl
one_way (Some value) x = refl

module _ (lawful : Holder → Frame → Option ReadReply) (ask : List ℕ) where
  -- what is heard of one, and behind it
  abbrev on : Holder → Asks → Over (Ear ReadReply) → Over Asks
  on who asks o = with_ask who o.heard (unless_found (value_by o.heard) (record { heard = asks; link = o.link }) (read_rest lawful ask asks o.link))

  first_closed : (a : Ask Holder ReadReply) (asks : Asks) (link : ScriptValue) → is_open a ≡ false → read_rest lawful ask (a ∷ asks) link ≡ on a.who asks (record { heard = a.ear; link = link })
  first_closed a asks link closed = ap (on a.who asks) (closed_rest (lawful a.who) ask a.who.brick a.who a.ear link closed)

  passes : (before rest : Asks) (link : ScriptValue) → NonePass is_open before → NonePass is_found before → read_rest lawful ask (before ++ rest) link ≡ prepend before (read_rest lawful ask rest link)
  passes [] rest link closed none = refl
  passes (a ∷ before) rest link closed none =
      first_closed a (before ++ rest) link (All-head (λ (x : Ask Holder ReadReply). is_open x ≡ false) a before closed)
      ∙ (ap (λ o. with_ask a.who a.ear (unless_found o (record { heard = before ++ rest; link = link }) (read_rest lawful ask (before ++ rest) link))) (no_value a (All-head (λ (x : Ask Holder ReadReply). is_found x ≡ false) a before none))
      ∙ ap (with_ask a.who a.ear) (passes before rest link (All-tail (λ (x : Ask Holder ReadReply). is_open x ≡ false) a before closed) (All-tail (λ (x : Ask Holder ReadReply). is_found x ≡ false) a before none)))

  all_closed : (asks : Asks) (link : ScriptValue) → NonePass is_open asks → read_rest lawful ask asks link ≡ record { heard = asks; link = link }
  all_closed [] link closed = refl
  all_closed (a ∷ asks) link closed =
      first_closed a asks link (All-head (λ (x : Ask Holder ReadReply). is_open x ≡ false) a asks closed)
      ∙ (ap (λ later. with_ask a.who a.ear (unless_found (value_by a.ear) (record { heard = asks; link = link }) later)) (all_closed asks link (All-tail (λ (x : Ask Holder ReadReply). is_open x ≡ false) a asks closed))
      ∙ ap (with_ask a.who a.ear) (one_way (value_by a.ear) (record { heard = asks; link = link })))

  -- where a value is found, nothing more is done
  stops_at : (before : Asks) (who : Holder) (ear : Ear ReadReply) (behind : Asks) (value : List ℕ) (link : ScriptValue) → NonePass is_open before → NonePass is_found before → value_by ear ≡ Some value → read_rest lawful ask (before ++ record { who = who; ear = ear } ∷ behind) link ≡ record { heard = before ++ record { who = who; ear = ear } ∷ behind; link = link }
  stops_at before who ear behind value link closed none found =
      passes before (record { who = who; ear = ear } ∷ behind) link closed none
      ∙ ap (prepend before) (first_closed (record { who = who; ear = ear }) behind link (value_closed who ear value found)
      ∙ ap (λ o. with_ask who ear (unless_found o (record { heard = behind; link = link }) (read_rest lawful ask behind link))) found)

  abbrev Stops : Asks → Type 0
  Stops asks = (value : List ℕ) (link : ScriptValue) → found_in asks ≡ Some value → read_rest lawful ask asks link ≡ record { heard = asks; link = link }

  -- one goes on, before which all were heard and none was found
  abbrev GoesOn : ScriptValue → ScriptValue → Asks → Asks → Type 0
  GoesOn link mid asks ends = (read_rest lawful ask asks link ≡ read_rest lawful ask ends mid) × Stops ends

  goes_on : (before : Asks) (who : Holder) (stage : Stage) (behind : Asks) (e : StubEvent) (link mid : ScriptValue) → NonePass is_open before → NonePass is_found (before ++ record { who = who; ear = Open stage } ∷ behind) → IsTrue (fits (wanted_of who.brick stage) (told_of e)) → Made ScriptMakes link (call_of ask (wanted_of who.brick stage) e) mid
      → GoesOn link mid (before ++ record { who = who; ear = Open stage } ∷ behind) (before ++ record { who = who; ear = heard (lawful who) stage (told_of e) } ∷ behind)
  goes_on before who stage behind e link mid closed none fit made = (same, stops (value_by y) refl) where
    y : Ear ReadReply
    y = heard (lawful who) stage (told_of e)

    none_before : NonePass is_found before
    none_before = of_front (λ (x : Ask Holder ReadReply). is_found x ≡ false) before (record { who = who; ear = Open stage } ∷ behind) none

    same : read_rest lawful ask (before ++ record { who = who; ear = Open stage } ∷ behind) link ≡ read_rest lawful ask (before ++ record { who = who; ear = heard (lawful who) stage (told_of e) } ∷ behind) mid
    same =
        passes before (record { who = who; ear = Open stage } ∷ behind) link closed none_before
        ∙ (ap (prepend before) (ap (on who behind) (rest_step (lawful who) ask who.brick stage e link mid fit made))
        ∙ sym (passes before (record { who = who; ear = heard (lawful who) stage (told_of e) } ∷ behind) mid closed none_before))

    stops : (o : Option (List ℕ)) → value_by (heard (lawful who) stage (told_of e)) ≡ o → Stops (before ++ record { who = who; ear = heard (lawful who) stage (told_of e) } ∷ behind)
    stops (Some value) is v l found = stops_at before who (heard (lawful who) stage (told_of e)) behind value l closed none_before is
    stops None is v l found = absurd (
        let all = of_parts (λ (x : Ask Holder ReadReply). is_found x ≡ false) before (record { who = who; ear = Open stage }) (record { who = who; ear = heard (lawful who) stage (told_of e) }) behind none (not_found (record { who = who; ear = heard (lawful who) stage (told_of e) }) is) in
        let e2 : None ≡ Some v = sym (none_found (before ++ record { who = who; ear = heard (lawful who) stage (told_of e) } ∷ behind) all) ∙ found in cc)

-- whose turn it is, by what was found and who has no outcome
module _ (s : ReadState) (early : nat_lt s.expiry.0 s.moment.0 ≡ false) (asks : Asks) where
  answer_is : read_answer (reads s asks) ≡ found_or (found_in asks) (lost_unless (turn_in_order asks) (filter_map loss_of asks))
  answer_is = ap (λ b. if b then Some (Err (Expired s.moment s.expiry)) else found_or (found_in asks) (lost_unless (turn_in_order asks) (filter_map loss_of asks))) early

  turn_by : turn_of_read (reads s asks) ≡ turn_unless (found_or (found_in asks) (lost_unless (turn_in_order asks) (filter_map loss_of asks))) (turn_in_order asks)
  turn_by = ap (λ o. turn_unless o (turn_in_order asks)) answer_is

  turn_found : (value : List ℕ) → found_in asks ≡ Some value → turn_of_read (reads s asks) ≡ None
  turn_found value h = turn_by ∙ ap (λ o. turn_unless (found_or o (lost_unless (turn_in_order asks) (filter_map loss_of asks))) (turn_in_order asks)) h

  turn_none : found_in asks ≡ None → turn_of_read (reads s asks) ≡ turn_in_order asks
  turn_none h = turn_by ∙ (ap (λ o. turn_unless (found_or o (lost_unless (turn_in_order asks) (filter_map loss_of asks))) (turn_in_order asks)) h ∙ go (turn_in_order asks)) where
    go : (t : Option (Turn Holder)) → turn_unless (lost_unless t (filter_map loss_of asks)) t ≡ t
    go None = refl
    go (Some t) = refl

  turn_of_place : (at : ℕ) (p : Placed is_open asks at) (stage : Stage) → position is_open asks ≡ Some at → p.item.ear ≡ Open stage → turn_in_order asks ≡ Some (record { at = at; who = p.item.who; stage = stage })
  turn_of_place at p stage e open_so =
      let there : slice_get asks at ≡ Some p.item = ap (slice_get asks) p.long ∙ (ap (λ xs. slice_get xs (length p.before)) p.parts ∙ get_there p.before p.item p.behind) in
      ap (option_and_then (turn_at asks)) e ∙ (ap (option_and_then (λ a. turn_with at a a.ear)) there ∙ ap (turn_with at p.item) open_so)

  told_at : (lawful : Holder → Frame → Option ReadReply) (e : StubEvent) (at : ℕ) (p : Placed is_open asks at) (stage : Stage)
      → asks_after lawful (told_of e) asks (Some (record { at = at; who = p.item.who; stage = stage })) ≡ p.before ++ record { who = p.item.who; ear = heard (lawful p.item.who) stage (told_of e) } ∷ p.behind
  told_at lawful e at p stage =
      let new : Ask Holder ReadReply = record { who = p.item.who; ear = heard (lawful p.item.who) stage (told_of e) } in
      let there : slice_get asks at ≡ Some p.item = ap (slice_get asks) p.long ∙ (ap (λ xs. slice_get xs (length p.before)) p.parts ∙ get_there p.before p.item p.behind) in
      ap (with_ear_of asks at new.ear) there
      ∙ (ap (λ i. slice_set asks i new) p.long ∙ (ap (λ xs. slice_set xs (length p.before) new) p.parts ∙ set_there p.before p.item new p.behind))

module _ (s : ReadState) (ask : List ℕ) (early : nat_lt s.expiry.0 s.moment.0 ≡ false) where
  abbrev lawful_of : Holder → Frame → Option ReadReply
  lawful_of = get_lawful s.nonce s.key s.version s.expiry

  step : (asks : Asks) (e : StubEvent) (link mid : ScriptValue) → IsTrue (fits (read_machine.next (reads s asks)) (told_of e)) → Made ScriptMakes link (call_of ask (read_machine.next (reads s asks)) e) mid
      → GoesOn lawful_of ask link mid asks (asks_after lawful_of (told_of e) asks (turn_of_read (reads s asks)))
  step asks e link mid fit made = go (found_in asks) refl (position is_open asks) refl where
    nobody : turn_of_read (reads s asks) ≡ None → ⊥
    nobody none = nothing_fits (told_of e) (let P : Option (Turn Holder) → Type 0 = λ t. IsTrue (fits (wanted (λ (holder : Holder). holder.brick) t) (told_of e)) in subst P none fit)

    go : (found : Option (List ℕ)) → found_in asks ≡ found → (place : Option ℕ) → position is_open asks ≡ place → GoesOn lawful_of ask link mid asks (asks_after lawful_of (told_of e) asks (turn_of_read (reads s asks)))
    go (Some value) is place at_is = absurd (nobody (turn_found s early asks value is))
    go None is None at_is = absurd (nobody (turn_none s early asks is ∙ ap (option_and_then (turn_at asks)) at_is))
    go None is (Some at) at_is =
        let p = placed is_open asks at at_is in
        let st = was_open Holder p.item.who p.item.ear p.passes in
        let turn : Turn Holder = record { at = at; who = p.item.who; stage = st.stage } in
        let now : turn_of_read (reads s asks) ≡ Some turn = turn_none s early asks is ∙ turn_of_place s early asks at p st.stage at_is st.is in
        let F : Option (Turn Holder) → Type 0 = λ t. IsTrue (fits (wanted (λ (holder : Holder). holder.brick) t) (told_of e)) in
        let M : Option (Turn Holder) → Type 0 = λ t. Made ScriptMakes link (call_of ask (wanted (λ (holder : Holder). holder.brick) t) e) mid in
        let old : Asks = p.before ++ record { who = p.item.who; ear = Open st.stage } ∷ p.behind in
        let new : Asks = p.before ++ record { who = p.item.who; ear = heard (lawful_of p.item.who) st.stage (told_of e) } ∷ p.behind in
        let old_is : asks ≡ old = p.parts ∙ ap (λ ear. p.before ++ record { who = p.item.who; ear = ear } ∷ p.behind) st.is in
        let new_is : asks_after lawful_of (told_of e) asks (turn_of_read (reads s asks)) ≡ new = ap (asks_after lawful_of (told_of e) asks) now ∙ told_at s early asks lawful_of e at p st.stage in
        let N : Asks → Type 0 = λ xs. NonePass is_found xs in
        let on = goes_on lawful_of ask p.before p.item.who st.stage p.behind e link mid p.none (subst N old_is (found_none asks is)) (subst F now fit) (subst M now made) in
        let O : Asks → Type 0 = λ xs. GoesOn lawful_of ask link mid xs new in
        let E : Asks → Type 0 = λ xs. GoesOn lawful_of ask link mid asks xs in
        subst E (sym new_is) (subst O (sym old_is) on)

  -- A run came to these.
  record Ends (asks : Asks) (events : List StubEvent) (link new : ScriptValue) : Type 0 where
    ends : Asks
    is : after read_machine (reads s asks) (map told_of events) ≡ reads s ends
    same : read_rest lawful_of ask asks link ≡ read_rest lawful_of ask ends new
    stops : Stops lawful_of ask ends

  run : (events : List StubEvent) (asks : Asks) (link new : ScriptValue) → Stops lawful_of ask asks → Fits read_machine (reads s asks) (map told_of events) → Made ScriptMakes link (calls read_machine ask (reads s asks) events) new → Ends asks events link new
  run [] asks link new stops fit made = record { ends = asks; is = refl; same = ap (read_rest lawful_of ask asks) made; stops = stops }
  run (e ∷ events) asks link new stops fit made =
      let parts = made_split (call_of ask (read_machine.next (reads s asks)) e) (calls read_machine ask (read_machine.hear (reads s asks) (told_of e)) events) link new made in
      let first = step asks e link parts.0 fit.0 parts.1 in
      let later = run events (asks_after lawful_of (told_of e) asks (turn_of_read (reads s asks))) parts.0 new first.1 fit.1 parts.2 in
      record { ends = later.ends; is = later.is; same = first.0 ∙ later.same; stops = later.stops }

  at_end : (asks : Asks) (link : ScriptValue) → Stops lawful_of ask asks → read_machine.next (reads s asks) ≡ Ended → read_rest lawful_of ask asks link ≡ record { heard = asks; link = link }
  at_end asks link stops over = go (found_in asks) refl (position is_open asks) refl where
    go : (found : Option (List ℕ)) → found_in asks ≡ found → (place : Option ℕ) → position is_open asks ≡ place → read_rest lawful_of ask asks link ≡ record { heard = asks; link = link }
    go (Some value) is place at_is = stops value link is
    go None is None at_is = all_closed lawful_of ask asks link (none_placed is_open asks at_is)
    go None is (Some at) at_is = absurd (
        let p = placed is_open asks at at_is in
        let st = was_open Holder p.item.who p.item.ear p.passes in
        let now : turn_of_read (reads s asks) ≡ Some (record { at = at; who = p.item.who; stage = st.stage }) = turn_none s early asks is ∙ turn_of_place s early asks at p st.stage at_is st.is in
        wants_none p.item.who.brick st.stage (sym (ap (wanted (λ (holder : Holder). holder.brick)) now) ∙ over))

starts : (lawful : Holder → Frame → Option ReadReply) (ask : List ℕ) (holders : List Holder) (link : ScriptValue) → read_rest lawful ask (none_asked holders) link ≡ read_in_order lawful ask holders link
starts lawful ask [] link = refl
starts lawful ask (holder ∷ holders) link =
    let asked = asked_over {A = ReadReply} ask holder.brick link in
    let over = asked_and_heard (lawful holder) ask holder.brick link in
    ap (on lawful ask holder (none_asked holders)) (just_asked (lawful holder) ask holder.brick link asked.link)
    ∙ ap (λ later. with_ask holder over.heard (unless_found (value_by over.heard) (record { heard = none_asked holders; link = over.link }) later)) (starts lawful ask holders over.link)

unfound : (holders : List Holder) → NonePass is_found (none_asked {A = ReadReply} holders)
unfound [] = All-nil (λ (x : Ask Holder ReadReply). is_found x ≡ false)
unfound (holder ∷ holders) = All-cons (λ (x : Ask Holder ReadReply). is_found x ≡ false) (record { who = holder; ear = Open Unasked }) (none_asked holders) refl (unfound holders)

-- past the expiry nothing is wanted
late_none : (s : ReadState) (ask : List ℕ) (events : List StubEvent) (link new : ScriptValue) → nat_lt s.expiry.0 s.moment.0 ≡ true → Fits read_machine s (map told_of events) → Made ScriptMakes link (calls read_machine ask s events) new → (after read_machine s (map told_of events) ≡ s) × (link ≡ new)
late_none s ask [] link new late fit made = (refl, made)
late_none s ask (e ∷ events) link new late fit made = absurd (
    let answer : read_answer s ≡ Some (Err (Expired s.moment s.expiry)) = ap (λ b. if b then Some (Err (Expired s.moment s.expiry)) else found_or (found_in s.asks) (lost_unless (turn_in_order s.asks) (filter_map loss_of s.asks))) late in
    let P : StubNext → Type 0 = λ next. IsTrue (fits next (told_of e)) in
    nothing_fits (told_of e) (subst P (ap (λ o. wanted (λ (holder : Holder). holder.brick) (turn_unless o (turn_in_order s.asks))) answer) fit.0))

true_or_not : (b : Bool) → (b ≡ true) ⊎ (b ≡ false)
true_or_not true = inl refl
true_or_not false = inr refl

-- A read over the link that wants nothing more came to what the rule says.
abbrev ByRule : ReadState → ReadState → ScriptValue → Over Asks → Type 0
ByRule s end new over = (end ≡ reads s over.heard) × (new ≡ over.link)

in_time : (s : ReadState) (holders : List Holder) (ask : List ℕ) (events : List StubEvent) (end : ReadState) (old new : ScriptValue) → nat_lt s.expiry.0 s.moment.0 ≡ false → s.asks ≡ none_asked holders → Ran read_machine ScriptMakes ask s old events end new → read_machine.next end ≡ Ended
    → ByRule s end new (read_in_order (get_lawful s.nonce s.key s.version s.expiry) ask holders old)
in_time s holders ask events end old new early start ran over =
    let lawful = get_lawful s.nonce s.key s.version s.expiry in
    let none : found_in s.asks ≡ None = ap found_in start ∙ none_found (none_asked holders) (unfound holders) in
    let stops : Stops lawful ask s.asks = λ value link found. absurd (let e : None ≡ Some value = sym none ∙ found in cc) in
    let came = run s ask early events s.asks old new stops ran.fitting ran.made in
    let end_is : end ≡ reads s came.ends = ran.ends ∙ came.is in
    let P : ReadState → Type 0 = λ e. read_machine.next e ≡ Ended in
    let whole : read_in_order lawful ask holders old ≡ record { heard = came.ends; link = new } =
    sym (starts lawful ask holders old) ∙ (ap (λ xs. read_rest lawful ask xs old) (sym start) ∙ (came.same ∙ at_end s ask early came.ends new came.stops (subst P end_is over))) in
    (end_is ∙ ap (λ (o : Over Asks). reads s o.heard) (sym whole), ap (λ (o : Over Asks). o.link) (sym whole))

pub read_by_rule : (s : ReadState) (holders : List Holder) (ask : List ℕ) (events : List StubEvent) (end : ReadState) (old new : ScriptValue) → s.asks ≡ none_asked holders → Ran read_machine ScriptMakes ask s old events end new → read_machine.next end ≡ Ended
    → ByRule s end new (read_over (get_lawful s.nonce s.key s.version s.expiry) ask s.moment s.expiry holders old)
read_by_rule s holders ask events end old new start ran over =
    let lawful = get_lawful s.nonce s.key s.version s.expiry in
    let O : Bool → Over Asks = λ late. if late then record { heard = none_asked holders; link = old } else read_in_order lawful ask holders old in
    let P : Bool → Type 0 = λ late. ByRule s end new (O late) in
    elim (true_or_not (nat_lt s.expiry.0 s.moment.0)) [
      | inl late ↦ (let none = late_none s ask events old new late ran.fitting ran.made in
          subst P (sym late) (ran.ends ∙ (none.0 ∙ ap (reads s) start), sym none.1))
      | inr early ↦ subst P (sym early) (in_time s holders ask events end old new early start ran over)
    ]
