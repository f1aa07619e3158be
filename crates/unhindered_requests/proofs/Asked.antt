-- Bricks that serve are found, and store.
use Rattle.std.proofs.Common.{arith, ◌≡◌, ◌∙◌, ◌⊎◌, take, ap, sym, refl, subst, inl, inr, ℕ, zero, suc, ◌+◌, ◌-◌, ◌≤◌, ◌<◌, zero-add, Bool, true, false, cond, if◌then◌else◌, nat_le, nat_lt, List, [], ◌∷◌, length, map, filter_map, All, Option, Some, None, Result, Ok, Err, slice_get, slice_set}
use Rattle.std.specs.List.{cons_option, count_by}
use Rattle.std.proofs.lemmas.Bool.{le-leb, leb-true, lt-ltb, ltb-true}
use Rattle.std.proofs.lemmas.List.Elements.{All-cons, All-head, All-nil, All-set, All-tail}
use Rattle.std.proofs.lemmas.List.Sums.{sum_by-cons}
use Rattle.crash_base.specs.declared.numbers.BrickNo.{BrickNo}
use Rattle.crash_base.specs.declared.numbers.Moment.{Moment}
use Rattle.crash_base.specs.declared.numbers.SessionKey.{SessionKey}
use Rattle.crash_base.specs.declared.numbers.Version.{Version}
use Rattle.session_cookie.specs.declared.cookie.Cookie.{Cookie}
use Rattle.session_cookie.specs.declared.cookie.Holder.{Holder}
use Rattle.ssm_frames.specs.declared.frame.Frame.{Frame}
use Rattle.ssm_stub.specs.Ears.{after_frame, heard}
use Rattle.ssm_stub.specs.Hearing.{IsStray}
use Rattle.ssm_stub.specs.Reads.{ReadState, found_in, found_or, get_lawful, hear_read, is_found, loss_by, loss_of, lost_unless, read_answer, read_start, turn_of_read}
use Rattle.ssm_stub.specs.Turns.{asks_after, is_open, none_asked, turn_after_asks, turn_in_order}
use Rattle.ssm_stub.specs.Writes.{WriteState, cause_by, cause_of, hear_write, holder_by, holder_of, missed_unless, put_lawful, write_answer, write_start}
use Rattle.ssm_stub.specs.declared.ask.Ask.{Ask}
use Rattle.ssm_stub.specs.declared.ask.Turn.{Turn}
use Rattle.ssm_stub.specs.declared.cause.BrickCause.{BrickCause}
use Rattle.ssm_stub.specs.declared.ear.Ear.{Ear}
use Rattle.ssm_stub.specs.declared.ear.Ear.TheVariants.{Open, Heard}
use Rattle.ssm_stub.specs.declared.ear.Outcome.TheVariants.{Answered, Silent, Strayed}
use Rattle.ssm_stub.specs.declared.ear.TheConstants.{MAX_STRAYS}
use Rattle.ssm_stub.specs.declared.ear.Stage.{Stage}
use Rattle.ssm_stub.specs.declared.ear.Stage.TheVariants.{Unasked, Asked}
use Rattle.ssm_stub.specs.declared.event.Told.{Told}
use Rattle.ssm_stub.specs.declared.event.Told.TheVariants.{Sent, Came}
use Rattle.ssm_stub.specs.declared.read_call.ReadRefusal.{ReadRefusal}
use Rattle.ssm_stub.specs.declared.read_call.ReadRefusal.TheVariants as read_refusal
use Rattle.ssm_stub.specs.declared.reply.ReadReply.{ReadReply}
use Rattle.ssm_stub.specs.declared.reply.ReadReply.TheVariants.{Found, Crashed, Swept}
use Rattle.ssm_stub.specs.declared.reply.WriteReply.{WriteReply}
use Rattle.ssm_stub.specs.declared.reply.WriteReply.TheVariants.{Stored, Full}
use Rattle.ssm_stub.specs.declared.write_call.WriteRefusal.{WriteRefusal}
use Rattle.ssm_stub.proofs.Concluding.{asks_after-keeps, none_asked-whos}
use Rattle.ssm_stub.proofs.Places.{turn_after_asks-stands, turn_of_read-stands, with_ear-there}
use Rattle.ssm_stub.proofs.ReadOrder.{found_behind, found_first}
use Rattle.ssm_stub.proofs.Searching.{all_heard, all_heard_in_order}
use Rattle.unhindered_requests.specs.Bricks.{BricksServe, HasStored, HoldersServe, MayFind, MayStore, bricks_in}

-- each that is asked has its outcome
abbrev pub AllHeard : {W A : Type 0} → List (Ask W A) → Type 0
AllHeard {W} {A} asks = (i : ℕ) (ask : Ask W A) → slice_get asks i ≡ Some ask → is_open ask ≡ false

-- Stores.

-- one that has its outcome, and no cause against it, has stored the value
stored_by : (who : BrickNo) (ear : Ear WriteReply) → is_open (record { who = who; ear = ear }) ≡ false → cause_by ear ≡ None → (holder : Holder) × (holder_by who ear ≡ Some holder)
stored_by who (Open stage) closed none = absurd (cc)
stored_by who (Heard (Answered (Stored incarnation))) closed none = (record { brick = who; incarnation = incarnation }, refl)
stored_by who (Heard (Answered (Full entries bytes))) closed none = absurd (cc)
stored_by who (Heard Silent) closed none = absurd (cc)
stored_by who (Heard Strayed) closed none = absurd (cc)

longer : {X : Type 0} (o : Option X) (xs : List X) → length xs ≤ length (cons_option o xs)
longer None xs = omega arith
longer (Some x) xs = omega arith

-- where all were heard, each that serves has stored the value
pub serving_stored : (serves : BrickNo → Bool) (asks : List (Ask BrickNo WriteReply)) → AllHeard asks → BricksServe serves asks
    → count_by serves (map (λ (a : Ask BrickNo WriteReply). a.who) asks) ≤ length (filter_map holder_of asks)
serving_stored serves [] all serve = omega arith
serving_stored serves (a ∷ asks) all serve =
    go (serves a.who) refl (serving_stored serves asks (λ i x here. all (suc i) x here) (All-tail (λ (x : Ask BrickNo WriteReply). serves x.who ≡ true → cause_by x.ear ≡ None) a asks serve))
  where
    first : serves a.who ≡ true → cause_by a.ear ≡ None
    first = All-head (λ (x : Ask BrickNo WriteReply). serves x.who ≡ true → cause_by x.ear ≡ None) a asks serve

    parts : (b : Bool) → serves a.who ≡ b → count_by serves (map (λ (x : Ask BrickNo WriteReply). x.who) (a ∷ asks)) ≡ cond b 1 0 + count_by serves (map (λ (x : Ask BrickNo WriteReply). x.who) asks)
    parts b is = sum_by-cons (λ x. cond (serves x) 1 0) a.who (map (λ (x : Ask BrickNo WriteReply). x.who) asks) ∙ ap (λ t. cond t 1 0 + count_by serves (map (λ (x : Ask BrickNo WriteReply). x.who) asks)) is

    go : (b : Bool) → serves a.who ≡ b → count_by serves (map (λ (x : Ask BrickNo WriteReply). x.who) asks) ≤ length (filter_map holder_of asks)
        → count_by serves (map (λ (x : Ask BrickNo WriteReply). x.who) (a ∷ asks)) ≤ length (filter_map holder_of (a ∷ asks))
    go true is rest =
        let stored = stored_by a.who a.ear (all zero a refl) (first is) in
        let many : length (filter_map holder_of (a ∷ asks)) ≡ suc (length (filter_map holder_of asks)) = ap (λ o. length (cons_option o (filter_map holder_of asks))) stored.1 in
        let p = parts true is in
        omega (arith, p, many, rest)
    go false is rest =
        let p = parts false is in
        let more = longer (holder_of a) (filter_map holder_of asks) in
        omega (arith, p, more, rest)

-- Reads.

-- one that has its outcome, and no cause against it, gave the value
found_by : (who : Holder) (ear : Ear ReadReply) (asks : List (Ask Holder ReadReply)) → is_open (record { who = who; ear = ear }) ≡ false → loss_by ear ≡ None → found_in (record { who = who; ear = ear } ∷ asks) ≡ None → ⊥
found_by who (Open stage) asks closed none lost = absurd (cc)
found_by who (Heard (Answered (Found value))) asks closed none lost = (let e : Some value ≡ None = sym (found_first who value asks) ∙ lost in cc)
found_by who (Heard (Answered (Crashed incarnation))) asks closed none lost = absurd (cc)
found_by who (Heard (Answered (Swept moment))) asks closed none lost = absurd (cc)
found_by who (Heard Silent) asks closed none lost = absurd (cc)
found_by who (Heard Strayed) asks closed none lost = absurd (cc)

not_found : (who : Holder) (ear : Ear ReadReply) (asks : List (Ask Holder ReadReply)) → found_in (record { who = who; ear = ear } ∷ asks) ≡ None → is_found (record { who = who; ear = ear }) ≡ false
not_found who (Open stage) asks lost = refl
not_found who (Heard (Answered (Found value))) asks lost = absurd (let e : Some value ≡ None = sym (found_first who value asks) ∙ lost in cc)
not_found who (Heard (Answered (Crashed incarnation))) asks lost = refl
not_found who (Heard (Answered (Swept moment))) asks lost = refl
not_found who (Heard Silent) asks lost = refl
not_found who (Heard Strayed) asks lost = refl

-- where all were heard and none gave the value, none serves
pub none_serves : (serves : BrickNo → Bool) (asks : List (Ask Holder ReadReply)) → AllHeard asks → HoldersServe serves asks → found_in asks ≡ None
    → count_by serves (map (λ (a : Ask Holder ReadReply). a.who.brick) asks) ≡ 0
none_serves serves [] all serve lost = refl
none_serves serves (a ∷ asks) all serve lost =
    go (serves a.who.brick) refl
    (none_serves serves asks (λ i x here. all (suc i) x here) (All-tail (λ (x : Ask Holder ReadReply). serves x.who.brick ≡ true → loss_by x.ear ≡ None) a asks serve)
    (sym (found_behind a asks (not_found a.who a.ear asks lost)) ∙ lost))
  where
    first : serves a.who.brick ≡ true → loss_by a.ear ≡ None
    first = All-head (λ (x : Ask Holder ReadReply). serves x.who.brick ≡ true → loss_by x.ear ≡ None) a asks serve

    go : (b : Bool) → serves a.who.brick ≡ b → count_by serves (map (λ (x : Ask Holder ReadReply). x.who.brick) asks) ≡ 0
        → count_by serves (map (λ (x : Ask Holder ReadReply). x.who.brick) (a ∷ asks)) ≡ 0
    go true is rest = absurd (found_by a.who a.ear asks (all zero a refl) (first is) lost)
    go false is rest =
        sum_by-cons (λ x. cond (serves x) 1 0) a.who.brick (map (λ (x : Ask Holder ReadReply). x.who.brick) asks)
        ∙ ap (λ t. cond t 1 0 + count_by serves (map (λ (x : Ask Holder ReadReply). x.who.brick) asks)) is
        ∙ zero-add (count_by serves (map (λ (x : Ask Holder ReadReply). x.who.brick) asks)) ∙ rest

-- The answers.

lost_parts : (past : Bool) (now expiry : Moment) (found : Option (List ℕ)) (turn : Option (Turn Holder)) (all : List BrickCause) (refusal : ReadRefusal) → (if past then Some (Err (read_refusal.Expired now expiry)) else found_or found (lost_unless turn all)) ≡ Some (Err refusal)
    → (past ≡ true) ⊎ ((found ≡ None) × (turn ≡ None))
lost_parts true now expiry found turn all refusal h = inl refl
lost_parts false now expiry (Some value) turn all refusal h = absurd (cc)
lost_parts false now expiry None (Some t) all refusal h = absurd (cc)
lost_parts false now expiry None None all refusal h = inr (refl, refl)

-- a read that may still find its value is not refused
pub never_refused : (serves : BrickNo → Bool) (r : ReadState) (refusal : ReadRefusal) → MayFind serves r → read_answer r ≡ Some (Err refusal) → ⊥
never_refused serves r refusal may h = elim (lost_parts (nat_lt r.expiry.0 r.moment.0) r.moment r.expiry (found_in r.asks) (turn_in_order r.asks) (filter_map loss_of r.asks) refusal h) [
  | inl past ↦ (let less = ltb-true r.expiry.0 r.moment.0 past in let lease = may.lease in omega (arith, less, lease))
  | inr (lost, ended) ↦
      (let none = none_serves serves r.asks (all_heard_in_order r.asks ended) may.serve lost in
      let some = may.some in
      omega (arith, none, some))
]

missed_parts : (enough : Bool) (cookie : Cookie) (turn : Option (Turn BrickNo)) (causes : List BrickCause) (refusal : WriteRefusal) → (if enough then Some (Ok cookie) else missed_unless turn causes) ≡ Some (Err refusal) → (enough ≡ false) × (turn ≡ None)
missed_parts true cookie turn causes refusal h = absurd (cc)
missed_parts false cookie (Some t) causes refusal h = absurd (cc)
missed_parts false cookie None causes refusal h = (refl, refl)

stored_parts : (enough : Bool) (cookie other : Cookie) (turn : Option (Turn BrickNo)) (causes : List BrickCause) → (if enough then Some (Ok cookie) else missed_unless turn causes) ≡ Some (Ok other) → enough ≡ true
stored_parts true cookie other turn causes h = refl
stored_parts false cookie other (Some t) causes h = absurd (cc)
stored_parts false cookie other None causes h = absurd (cc)

-- the cookie that a write gives
cookie_of : WriteState → Cookie
cookie_of w = record { key = w.key; version = w.nonce; expiry = w.expiry; bricks = take w.least (filter_map holder_of w.asks) }

-- a write that has an answer, and may still store its value, has stored it
pub has_stored : (serves : BrickNo → Bool) (w : WriteState) (answer : Result Cookie WriteRefusal) → MayStore serves w → write_answer w ≡ Some answer → HasStored w
unfolding cookie_of
has_stored serves w (Ok cookie) may h =
    leb-true w.least (length (filter_map holder_of w.asks)) (stored_parts (nat_le w.least (length (filter_map holder_of w.asks))) (cookie_of w) cookie (turn_after_asks w.asks) (filter_map cause_of w.asks) h)
has_stored serves w (Err refusal) may h =
    let parts = missed_parts (nat_le w.least (length (filter_map holder_of w.asks))) (cookie_of w) (turn_after_asks w.asks) (filter_map cause_of w.asks) refusal h in
    let stored = serving_stored serves w.asks (all_heard w.asks parts.1) may.serve in
    let enough = may.enough in
    omega (arith, stored, enough)

-- a write that has stored its value answers a cookie
pub stored_answers : (w : WriteState) → HasStored w → (cookie : Cookie) × (write_answer w ≡ Some (Ok cookie))
unfolding cookie_of
stored_answers w stored =
    (cookie_of w, ap (λ b. if b then Some (Ok (cookie_of w)) else missed_unless (turn_after_asks w.asks) (filter_map cause_of w.asks)) (le-leb w.least (length (filter_map holder_of w.asks)) stored))

-- At the begin.

-- who is asked is who was to be
pub asked_are : (A : Type 0) {W X : Type 0} (f : W → X) (whos : List W) → map (λ (a : Ask W A). f a.who) (none_asked whos) ≡ map f whos
asked_are A f [] = refl
asked_are A f (who ∷ whos) = ap (λ rest. f who ∷ rest) (asked_are A f whos)

-- those that were not asked have no cause against them
pub holders_begin : (serves : BrickNo → Bool) (holders : List Holder) → HoldersServe serves (none_asked holders)
holders_begin serves [] = All-nil (λ (a : Ask Holder ReadReply). serves a.who.brick ≡ true → loss_by a.ear ≡ None)
holders_begin serves (holder ∷ holders) =
    All-cons (λ (a : Ask Holder ReadReply). serves a.who.brick ≡ true → loss_by a.ear ≡ None) (record { who = holder; ear = Open Unasked }) (none_asked holders) (λ does. refl) (holders_begin serves holders)

pub bricks_begin : (serves : BrickNo → Bool) (bricks : List BrickNo) → BricksServe serves (none_asked bricks)
bricks_begin serves [] = All-nil (λ (a : Ask BrickNo WriteReply). serves a.who ≡ true → cause_by a.ear ≡ None)
bricks_begin serves (brick ∷ bricks) =
    All-cons (λ (a : Ask BrickNo WriteReply). serves a.who ≡ true → cause_by a.ear ≡ None) (record { who = brick; ear = Open Unasked }) (none_asked bricks) (λ does. refl) (bricks_begin serves bricks)

-- a read begins so, within its lease and where a brick of its cookie serves
pub may_find : (serves : BrickNo → Bool) (now : Moment) (nonce : Version) (cookie : Cookie) → now.0 ≤ cookie.expiry.0 → 1 ≤ count_by serves (bricks_in cookie.bricks) → MayFind serves (read_start now nonce cookie)
may_find serves now nonce cookie lease some = record {
  lease = lease;
  some = rw (asked_are ReadReply (λ (h : Holder). h.brick) cookie.bricks) some;
  serve = holders_begin serves cookie.bricks;
}

-- a write begins so, where enough of its bricks serve
pub may_store : (serves : BrickNo → Bool) (bricks : List BrickNo) (least : ℕ) (nonce : Version) (key : SessionKey) (value : List ℕ) (expiry : Moment) → least ≤ count_by serves bricks → MayStore serves (write_start bricks least nonce key value expiry)
may_store serves bricks least nonce key value expiry enough = record {
  enough = rw (none_asked-whos WriteReply bricks) enough;
  serve = bricks_begin serves bricks;
}

-- At each step.

-- what is so of each that is asked is so after an event, where it is so of the one that was told it
all_after : {W A : Type 0} (So : Ask W A → Type 0) (lawful : W → Frame → Option A) (told : Told) (asks : List (Ask W A)) (turn : Option (Turn W))
    → ((t : Turn W) → turn ≡ Some t → slice_get asks t.at ≡ Some (record { who = t.who; ear = Open t.stage }))
    → ((t : Turn W) → turn ≡ Some t → So (record { who = t.who; ear = heard (lawful t.who) t.stage told }))
    → All So asks → All So (asks_after lawful told asks turn)
all_after So lawful told asks None stands so all = all
all_after {W} {A} So lawful told asks (Some t) stands so all =
    let ear : Ear A = heard (lawful t.who) t.stage told in
    subst (λ (xs : List (Ask W A)). All So xs) (sym (with_ear-there asks t.at ear (record { who = t.who; ear = Open t.stage }) (stands t refl)))
    (All-set So asks t.at (record { who = t.who; ear = ear }) (so t refl) all)

pub holders_after : (serves : BrickNo → Bool) (r : ReadState) (told : Told) → HoldersServe serves r.asks
    → ((t : Turn Holder) → turn_of_read r ≡ Some t → serves t.who.brick ≡ true → loss_by (heard (get_lawful r.nonce r.key r.version r.expiry t.who) t.stage told) ≡ None)
    → HoldersServe serves (hear_read r told).asks
holders_after serves r told serve none =
    all_after (λ (a : Ask Holder ReadReply). serves a.who.brick ≡ true → loss_by a.ear ≡ None) (get_lawful r.nonce r.key r.version r.expiry) told r.asks (turn_of_read r) (turn_of_read-stands r) none serve

pub bricks_after : (serves : BrickNo → Bool) (w : WriteState) (told : Told) → BricksServe serves w.asks
    → ((t : Turn BrickNo) → turn_after_asks w.asks ≡ Some t → serves t.who ≡ true → cause_by (heard (put_lawful w.nonce w.key t.who) t.stage told) ≡ None)
    → BricksServe serves (hear_write w told).asks
bricks_after serves w told serve none =
    all_after (λ (a : Ask BrickNo WriteReply). serves a.who ≡ true → cause_by a.ear ≡ None) (put_lawful w.nonce w.key) told w.asks (turn_after_asks w.asks) (turn_after_asks-stands w.asks) none serve

-- a read that goes on may still find its value, where the bricks that serve do so
pub finds_on : (serves : BrickNo → Bool) (r : ReadState) (told : Told) → HoldersServe serves (hear_read r told).asks → MayFind serves r → MayFind serves (hear_read r told)
finds_on serves r told serve may = record {
  lease = may.lease;
  some = rw (asks_after-keeps (λ (h : Holder). h.brick) (get_lawful r.nonce r.key r.version r.expiry) told r.asks (turn_of_read r)) may.some;
  serve = serve;
}

pub stores_on : (serves : BrickNo → Bool) (w : WriteState) (told : Told) → BricksServe serves (hear_write w told).asks → MayStore serves w → MayStore serves (hear_write w told)
stores_on serves w told serve may = record {
  enough = rw (asks_after-keeps (λ (b : BrickNo). b) (put_lawful w.nonce w.key) told w.asks (turn_after_asks w.asks)) may.enough;
  serve = serve;
}

as_long : {X : Type 0} (o : Option X) (xs ys : List X) → length xs ≤ length ys → length (cons_option o xs) ≤ length (cons_option o ys)
as_long None xs ys h = h
as_long (Some x) xs ys h = omega (arith, h)

-- what has an image is put in place of what has none
more_have : {X Y : Type 0} (h : X → Option Y) (xs : List X) (i : ℕ) (x y : X) → slice_get xs i ≡ Some x → h x ≡ None → length (filter_map h xs) ≤ length (filter_map h (slice_set xs i y))
more_have h [] zero x y here none = absurd (cc)
more_have h [] (suc i) x y here none = absurd (cc)
more_have h (z ∷ zs) zero x y here none =
    let same : z ≡ x = cc in
    let before : length (filter_map h (z ∷ zs)) ≡ length (filter_map h zs) = ap (λ o. length (cons_option o (filter_map h zs))) (ap h same ∙ none) in
    let more = longer (h y) (filter_map h zs) in
    omega (arith, before, more)
more_have h (z ∷ zs) (suc i) x y here none = as_long (h z) (filter_map h zs) (filter_map h (slice_set zs i y)) (more_have h zs i x y here none)

stored_after : (lawful : BrickNo → Frame → Option WriteReply) (told : Told) (asks : List (Ask BrickNo WriteReply)) (turn : Option (Turn BrickNo)) → turn_after_asks asks ≡ turn
    → length (filter_map holder_of asks) ≤ length (filter_map holder_of (asks_after lawful told asks turn))
stored_after lawful told asks None is = omega arith
stored_after lawful told asks (Some t) is =
    let ear : Ear WriteReply = heard (lawful t.who) t.stage told in
    let ask : Ask BrickNo WriteReply = record { who = t.who; ear = Open t.stage } in
    let stands = turn_after_asks-stands asks t is in
    subst (λ (xs : List (Ask BrickNo WriteReply)). length (filter_map holder_of asks) ≤ length (filter_map holder_of xs)) (sym (with_ear-there asks t.at ear ask stands))
    (more_have holder_of asks t.at ask (record { who = t.who; ear = ear }) stands refl)

-- what was stored stays so
pub stored_on : (w : WriteState) (told : Told) → HasStored w → HasStored (hear_write w told)
stored_on w told stored =
    let more = stored_after (put_lawful w.nonce w.key) told w.asks (turn_after_asks w.asks) refl in
    omega (arith, more, stored)

-- What is no cause.

read_reply : (stage : Stage) (value : List ℕ) → loss_by (after_frame stage (Some (Found value))) ≡ None
read_reply Unasked value = refl
read_reply (Asked strays) value = refl

pub found_serves : (lawful : Frame → Option ReadReply) (stage : Stage) (frame : Frame) (value : List ℕ) → lawful frame ≡ Some (Found value) → loss_by (heard lawful stage (Came (Some frame))) ≡ None
found_serves lawful stage frame value is = ap (λ reply. loss_by (after_frame stage reply)) is ∙ read_reply stage value

write_reply : (stage : Stage) (incarnation : ℕ) → cause_by (after_frame stage (Some (Stored incarnation))) ≡ None
write_reply Unasked incarnation = refl
write_reply (Asked strays) incarnation = refl

pub stored_serves : (lawful : Frame → Option WriteReply) (stage : Stage) (frame : Frame) (incarnation : ℕ) → lawful frame ≡ Some (Stored incarnation) → cause_by (heard lawful stage (Came (Some frame))) ≡ None
stored_serves lawful stage frame incarnation is = ap (λ reply. cause_by (after_frame stage reply)) is ∙ write_reply stage incarnation

few_strays : {A : Type 0} (lawful : Frame → Option A) (strays : ℕ) (frame : Option Frame) → IsStray lawful frame → strays + 1 < MAX_STRAYS → heard lawful (Asked strays) (Came frame) ≡ Open (Asked (strays + 1))
few_strays {A} lawful strays frame stray few =
    ap (λ (reply : Option A). after_frame (Asked strays) reply) stray
    ∙ ap (λ (b : Bool). if b then Open (Asked (strays + 1)) else Heard Strayed) (lt-ltb strays (MAX_STRAYS - 1) (omega (arith, few)))

pub read_strays_serve : (lawful : Frame → Option ReadReply) (strays : ℕ) (frame : Option Frame) → IsStray lawful frame → strays + 1 < MAX_STRAYS → loss_by (heard lawful (Asked strays) (Came frame)) ≡ None
read_strays_serve lawful strays frame stray few = ap loss_by (few_strays lawful strays frame stray few)

pub write_strays_serve : (lawful : Frame → Option WriteReply) (strays : ℕ) (frame : Option Frame) → IsStray lawful frame → strays + 1 < MAX_STRAYS → cause_by (heard lawful (Asked strays) (Came frame)) ≡ None
write_strays_serve lawful strays frame stray few = ap cause_by (few_strays lawful strays frame stray few)

pub read_asks_serve : (lawful : Frame → Option ReadReply) (stage : Stage) → loss_by (heard lawful stage Sent) ≡ None
read_asks_serve lawful Unasked = refl
read_asks_serve lawful (Asked strays) = refl

pub write_asks_serve : (lawful : Frame → Option WriteReply) (stage : Stage) → cause_by (heard lawful stage Sent) ≡ None
write_asks_serve lawful Unasked = refl
write_asks_serve lawful (Asked strays) = refl
