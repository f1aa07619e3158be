-- What the answers of reads say.
use Rattle.std.proofs.Common.{◌≡◌, ◌∙◌, ap, sym, refl, subst, inl, inr, ℕ, zero, suc, Bool, true, false, nat_lt, if◌then◌else◌, List, [], ◌∷◌, map, filter_map, All, Option, Some, None, Ok, Err, slice_get}
use Rattle.std.specs.Prelude.{option_map}
use Rattle.std.specs.List.{cons_option}
use Rattle.std.proofs.lemmas.List.Elements.{All-nil, All-cons}
use Rattle.std.proofs.lemmas.Option.{slice_get-map}
use Rattle.crash_base.specs.declared.numbers.Moment.{Moment}
use Rattle.crash_base.specs.declared.numbers.Version.{Version}
use Rattle.crash_base.specs.declared.numbers.BrickNo.{BrickNo}
use Rattle.outside.specs.declared.link.LinkEvent.{LinkEvent}
use Rattle.session_cookie.specs.declared.cookie.Cookie.{Cookie}
use Rattle.session_cookie.specs.declared.cookie.Holder.{Holder}
use Rattle.ssm_frames.specs.declared.frame.Frame.{Frame}
use Rattle.ssm_stub.specs.declared.cause.BrickCause.{BrickCause}
use Rattle.ssm_stub.specs.declared.cause.Cause.{Cause}
use Rattle.ssm_stub.specs.declared.cause.Cause.TheVariants as cause
use Rattle.ssm_stub.specs.declared.ear.Stage.TheVariants.{Unasked}
use Rattle.ssm_stub.specs.declared.ear.Outcome.{Outcome}
use Rattle.ssm_stub.specs.declared.ear.Outcome.TheVariants.{Answered, Silent, Strayed}
use Rattle.ssm_stub.specs.declared.ear.Ear.{Ear}
use Rattle.ssm_stub.specs.declared.ear.Ear.TheVariants.{Open, Heard}
use Rattle.ssm_stub.specs.declared.event.Told.{Told}
use Rattle.ssm_stub.specs.declared.ask.Ask.{Ask}
use Rattle.ssm_stub.specs.declared.ask.Turn.{Turn}
use Rattle.ssm_stub.specs.declared.reply.ReadReply.{ReadReply}
use Rattle.ssm_stub.specs.declared.reply.ReadReply.TheVariants.{Found, Crashed, Swept}
use Rattle.ssm_stub.specs.declared.read_call.ReadRefusal.TheVariants.{Expired, Lost}
use Rattle.ssm_stub.specs.Turns.{is_open, turn_in_order}
use Rattle.ssm_stub.specs.Runs.{Fits}
use Rattle.ssm_stub.specs.Writes.{with_brick}
use Rattle.ssm_stub.specs.Reads.{read_answer_of, found_in, found_or, loss_by, loss_of, lost_unless}
use Rattle.ssm_stub.specs.Hearing.{all_about, EndsIn, ear_machine}
use Rattle.ssm_stub.specs.Outcomes.{IsGetCause, HaveCausesBy, IsReadBy, IsLost, IsRead}
use Rattle.ssm_stub.proofs.HearingEnds.{heard_so, untold_so}
use Rattle.ssm_stub.proofs.Searching.{all_heard_in_order}
use Rattle.ssm_stub.proofs.ReadOrder.{is_lost, AreFresh, InOrder, found_behind, lost_not_found, found_first, none_found}
use Rattle.ssm_stub.proofs.ByEvents.{ask_by}
use Rattle.ssm_stub.proofs.ReadFacts.{ReadFacts, lawful_of}

-- its cause, where it has one
pub record Caused (lawful : Frame → Option ReadReply) (events : List Told) (ear : Ear ReadReply) : Type 0 where
  pub why : Cause
  pub told : loss_by ear ≡ Some why
  pub is : IsGetCause lawful events why

-- one that is lost has its cause
caused_by : (lawful : Frame → Option ReadReply) (events : List Told) (ear : Ear ReadReply) → is_lost ear ≡ true → ((o : Outcome ReadReply) → ear ≡ Heard o → EndsIn lawful events o) → Caused lawful events ear
unfolding is_lost
caused_by lawful events (Open stage) lost ends = absurd cc
caused_by lawful events (Heard (Answered (Found value))) lost ends = absurd cc
caused_by lawful events (Heard (Answered (Crashed incarnation))) lost ends = record { why = cause.Crashed incarnation; told = refl; is = ends (Answered (Crashed incarnation)) refl }
caused_by lawful events (Heard (Answered (Swept moment))) lost ends = record { why = cause.Swept moment; told = refl; is = ends (Answered (Swept moment)) refl }
caused_by lawful events (Heard Silent) lost ends = record { why = cause.Silent; told = refl; is = ends Silent refl }
caused_by lawful events (Heard Strayed) lost ends = record { why = cause.Strayed; told = refl; is = ends Strayed refl }

lost_parts : (past : Bool) (now expiry : Moment) (found : Option (List ℕ)) (turn : Option (Turn Holder)) (all causes : List BrickCause) → (if past then Some (Err (Expired now expiry)) else found_or found (lost_unless turn all)) ≡ Some (Err (Lost causes)) → (found ≡ None) × (turn ≡ None) × (causes ≡ all)
lost_parts true now expiry found turn all causes h = absurd cc
lost_parts false now expiry (Some value) turn all causes h = absurd cc
lost_parts false now expiry None (Some t) all causes h = absurd cc
lost_parts false now expiry None None all causes h = (refl, refl, cc)

read_parts : (past : Bool) (now expiry : Moment) (found : Option (List ℕ)) (turn : Option (Turn Holder)) (all : List BrickCause) (value : List ℕ) → (if past then Some (Err (Expired now expiry)) else found_or found (lost_unless turn all)) ≡ Some (Ok value) → found ≡ Some value
read_parts true now expiry found turn all value h = absurd cc
read_parts false now expiry (Some v) turn all value h = cc
read_parts false now expiry None (Some t) all value h = absurd cc
read_parts false now expiry None None all value h = absurd cc

heard_lost : (who : Holder) (ear : Ear ReadReply) (asks : List (Ask Holder ReadReply)) → is_open (record { who = who; ear = ear }) ≡ false → found_in (record { who = who; ear = ear } ∷ asks) ≡ None → is_lost ear ≡ true
unfolding is_lost
heard_lost who (Open stage) asks h none = absurd cc
heard_lost who (Heard (Answered (Found value))) asks h none = absurd (let e : Some value ≡ None = sym (found_first who value asks) ∙ none in cc)
heard_lost who (Heard (Answered (Crashed incarnation))) asks h none = refl
heard_lost who (Heard (Answered (Swept moment))) asks h none = refl
heard_lost who (Heard Silent) asks h none = refl
heard_lost who (Heard Strayed) asks h none = refl

module _ (lawful : Holder → Frame → Option ReadReply) (told : BrickNo → List Told) where
  abbrev ask_of : Holder → Ask Holder ReadReply
  ask_of = ask_by (λ (h : Holder). h.brick) lawful told

  abbrev Fitting : List Holder → Type 0
  Fitting holders = (i : ℕ) (h : Holder) → slice_get holders i ≡ Some h → Fits (ear_machine h.brick (lawful h)) (Open Unasked) (told h.brick)

  first_caused : (holder : Holder) (holders : List Holder) → Fitting (holder ∷ holders) → is_lost (ask_of holder).ear ≡ true → Caused (lawful holder) (told holder.brick) (ask_of holder).ear
  first_caused holder holders fitting lost =
      caused_by (lawful holder) (told holder.brick) (ask_of holder).ear lost
      (λ o is. heard_so (lawful holder) holder.brick (told holder.brick) o (fitting zero holder refl) is)

  -- where all are heard and none gave the value, each has its cause
  pub all_caused : (holders : List Holder) → Fitting holders → ((i : ℕ) (h : Holder) → slice_get holders i ≡ Some h → is_open (ask_of h) ≡ false) → found_in (map ask_of holders) ≡ None → HaveCausesBy lawful told holders (filter_map loss_of (map ask_of holders))
  all_caused [] fitting heard none = tt
  all_caused (holder ∷ holders) fitting heard none =
      let asks = map ask_of holders in
      let lost = heard_lost holder (ask_of holder).ear asks (heard zero holder refl) none in
      let one = first_caused holder holders fitting lost in
      let rest = all_caused holders (λ i h here. fitting (suc i) h here) (λ i h here. heard (suc i) h here) (sym (found_behind (ask_of holder) asks (lost_not_found holder (ask_of holder).ear lost)) ∙ none) in
      let P : Option BrickCause → Type 0 = λ o. HaveCausesBy lawful told (holder ∷ holders) (cons_option o (filter_map loss_of asks)) in
      subst P (sym (ap (with_brick holder.brick) one.told)) (refl, one.is, rest)

  fresh_untold : (holders : List Holder) → Fitting holders → AreFresh (map ask_of holders) → All (λ (h : Holder). told h.brick ≡ []) holders
  unfolding AreFresh
  fresh_untold [] fitting h = All-nil (λ (x : Holder). told x.brick ≡ [])
  fresh_untold (holder ∷ holders) fitting (first, rest) =
      All-cons (λ (x : Holder). told x.brick ≡ []) holder holders
      (untold_so (lawful holder) holder.brick (told holder.brick) (fitting zero holder refl) first)
      (fresh_untold holders (λ i h here. fitting (suc i) h here) rest)

  found_here : (holder : Holder) (holders : List Holder) (value : List ℕ) (ear : Ear ReadReply) → (ask_of holder).ear ≡ ear → is_lost ear ≡ false → Fitting (holder ∷ holders) → AreFresh (map ask_of holders) → found_in (record { who = holder; ear = ear } ∷ map ask_of holders) ≡ Some value → IsReadBy lawful told (holder ∷ holders) value
  unfolding is_lost
  found_here holder holders value (Open stage) is lost fitting fresh found =
      absurd (let e : None ≡ Some value = sym (none_found (map ask_of holders) fresh) ∙ (sym (found_behind (record { who = holder; ear = Open stage }) (map ask_of holders) refl) ∙ found) in cc)
  found_here holder holders value (Heard (Answered (Found v))) is lost fitting fresh found =
      let same : v ≡ value = (let e : Some v ≡ Some value = sym (found_first holder v (map ask_of holders)) ∙ found in cc) in
      let given : (ask_of holder).ear ≡ Heard (Answered (Found value)) = is ∙ ap (λ x. Heard (Answered (Found x))) same in
      record {
        before = [];
        holder = holder;
        behind = holders;
        parts = refl;
        causes = [];
        lost = tt;
        found = heard_so (lawful holder) holder.brick (told holder.brick) (Answered (Found value)) (fitting zero holder refl) given;
        unasked = fresh_untold holders (λ i h here. fitting (suc i) h here) fresh;
      }
  found_here holder holders value (Heard (Answered (Crashed incarnation))) is lost fitting fresh found = absurd cc
  found_here holder holders value (Heard (Answered (Swept moment))) is lost fitting fresh found = absurd cc
  found_here holder holders value (Heard Silent) is lost fitting fresh found = absurd cc
  found_here holder holders value (Heard Strayed) is lost fitting fresh found = absurd cc

  pub split : (holders : List Holder) (value : List ℕ) → Fitting holders → InOrder (map ask_of holders) → found_in (map ask_of holders) ≡ Some value → IsReadBy lawful told holders value
  unfolding InOrder
  split [] value fitting order found = absurd cc
  split (holder ∷ holders) value fitting (inr (here, fresh)) found = found_here holder holders value (ask_of holder).ear refl here fitting fresh found
  split (holder ∷ holders) value fitting (inl (lost, rest)) found =
      let one = first_caused holder holders fitting lost in
      let later = split holders value (λ i h here. fitting (suc i) h here) rest (sym (found_behind (ask_of holder) (map ask_of holders) (lost_not_found holder (ask_of holder).ear lost)) ∙ found) in
      record {
        before = holder ∷ later.before;
        holder = later.holder;
        behind = later.behind;
        parts = ap (λ hs. holder ∷ hs) later.parts;
        causes = record { brick = holder.brick; cause = one.why } ∷ later.causes;
        lost = (refl, one.is, later.lost);
        found = later.found;
        unasked = later.unasked;
      }

  -- a read that was lost tells why
  pub lost_of : (now expiry : Moment) (holders : List Holder) (causes : List BrickCause) → Fitting holders → read_answer_of now expiry (map ask_of holders) ≡ Some (Err (Lost causes)) → HaveCausesBy lawful told holders causes
  lost_of now expiry holders causes fitting answers =
      let asks = map ask_of holders in
      let parts = lost_parts (nat_lt expiry.0 now.0) now expiry (found_in asks) (turn_in_order asks) (filter_map loss_of asks) causes answers in
      let each : (i : ℕ) (h : Holder) → slice_get holders i ≡ Some h → is_open (ask_of h) ≡ false = λ i h here.
      all_heard_in_order asks parts.1 i (ask_of h) (slice_get-map ask_of holders i ∙ ap (option_map ask_of) here) in
      let Have : List BrickCause → Type 0 = HaveCausesBy lawful told holders in
      subst Have (sym parts.2) (all_caused holders fitting each parts.0)

  -- a value was given by a holder
  pub found_of : (now expiry : Moment) (holders : List Holder) (value : List ℕ) → Fitting holders → InOrder (map ask_of holders) → read_answer_of now expiry (map ask_of holders) ≡ Some (Ok value) → IsReadBy lawful told holders value
  found_of now expiry holders value fitting order answers =
      let asks = map ask_of holders in
      split holders value fitting order (read_parts (nat_lt expiry.0 now.0) now expiry (found_in asks) (turn_in_order asks) (filter_map loss_of asks) value answers)

module _ {L : Type 0} (makes : L → LinkEvent → L → Type 0) (now : Moment) (nonce : Version) (cookie : Cookie) (old new : L) where
  -- a read that was lost tells why
  pub lost : (causes : List BrickCause) → ReadFacts makes now nonce cookie old new (Err (Lost causes)) → IsLost makes nonce cookie old new causes
  lost causes facts = record {
    calls = facts.calls_made;
    made = facts.made;
    told = lost_of (lawful_of nonce cookie) (λ b. all_about b facts.calls_made) now cookie.expiry cookie.bricks causes facts.fitting facts.answers;
  }

  -- a value was given by a holder
  pub read_so : (value : List ℕ) → ReadFacts makes now nonce cookie old new (Ok value) → IsRead makes nonce cookie old new value
  read_so value facts =
      let s = found_of (lawful_of nonce cookie) (λ b. all_about b facts.calls_made) now cookie.expiry cookie.bricks value facts.fitting facts.in_order facts.answers in
      record {
        calls = facts.calls_made;
        made = facts.made;
        before = s.before;
        holder = s.holder;
        behind = s.behind;
        parts = s.parts;
        causes = s.causes;
        lost = s.lost;
        found = s.found;
        unasked = s.unasked;
      }

  -- by the same calls
  pub lost-calls : (causes : List BrickCause) (facts : ReadFacts makes now nonce cookie old new (Err (Lost causes))) → (lost causes facts).calls ≡ facts.calls_made
  unfolding lost
  lost-calls causes facts = refl

  pub read-calls : (value : List ℕ) (facts : ReadFacts makes now nonce cookie old new (Ok value)) → (read_so value facts).calls ≡ facts.calls_made
  unfolding read_so
  read-calls value facts = refl
