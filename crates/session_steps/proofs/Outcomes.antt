-- What a fetch writes, by what it hears of each holder.
use Rattle.std.proofs.Common.{◌≡◌, ◌⊎◌, inl, inr, ℕ, zero, suc, ◌<◌, ◌≤◌, ◌||◌, Bool, true, false, if◌then◌else◌, nat_lt, List, [], ◌∷◌, length, map, Option, Some, None, Err, refl, sym, ap, ◌∙◌, subst, arith}
use Rattle.std.specs.Prelude.{slice_get}
use Rattle.std.specs.List.{filter_map, cons_option}
use Rattle.std.proofs.lemmas.Bool.Decides.{nat_tests}
use Rattle.crash_base.specs.declared.numbers.Version.{Version}
use Rattle.session_cookie.specs.declared.cookie.Holder.{Holder}
use Rattle.ssm_stub.specs.declared.ask.Ask.{Ask}
use Rattle.ssm_stub.specs.declared.cause.Cause.{Cause}
use Rattle.ssm_stub.specs.declared.cause.Cause.TheVariants as cause
use Rattle.ssm_stub.specs.declared.ear.TheConstants.{MAX_STRAYS}
use Rattle.ssm_stub.specs.declared.ear.Outcome.{Outcome}
use Rattle.ssm_stub.specs.declared.ear.Outcome.TheVariants as outcome
use Rattle.ssm_stub.specs.declared.ear.Ear.TheVariants.{Heard}
use Rattle.ssm_stub.specs.declared.read_call.ReadRefusal.TheVariants.{Expired}
use Rattle.ssm_stub.specs.declared.reply.ReadReply.{ReadReply}
use Rattle.ssm_stub.specs.declared.reply.ReadReply.TheVariants as get
use Rattle.ssm_stub.specs.Reads.{value_by, value_of, found_in, loss_by, loss_of}
use Rattle.ssm_stub.specs.Writes.{with_brick}
use Rattle.ssm_world.proofs.Ending.{FoundAt, found_at, none_found}
use Rattle.session_lanes.specs.Lane.{LaneState, lane_at}
use Rattle.session_steps.specs.Promise.{FetchMade, HasLane, WasHeard, WasSweptLate, crashes, CanServe, IsCause, AreCauses, IsRight}
use Rattle.session_steps.specs.Rule.{heard_behind, heard_on_lane, outcome_by_rule, asks_by_rule, found_or_lost, result_by_rule}
use Rattle.session_steps.specs.Sessions.{fetched_text}
use Rattle.session_lanes.specs.Lanes.{LanesState}
use Rattle.session_steps.specs.Texts.{found_text}
use Rattle.session_steps.proofs.Replies.{RepliesFound, RepliesCrashed, RepliesSwept}

-- a holder is heard to give the value, and could serve
pub record Gives (fetch : FetchMade) (holder : Holder) (o : Outcome ReadReply) : Type 0 where
  pub outcome_is : o ≡ outcome.Answered (get.Found fetch.value)
  pub uncrashed : crashes holder.brick.0 fetch.since ≡ 0
  pub kept : WasSweptLate fetch holder → ⊥
  pub heard : WasHeard fetch holder

-- a holder is heard to give no value, and has its cause
pub record HasCause (fetch : FetchMade) (holder : Holder) (o : Outcome ReadReply) : Type 0 where
  pub cause : Cause
  pub valueless : value_by (Heard o) ≡ None
  pub loss_is : loss_by (Heard o) ≡ Some cause
  pub is : IsCause fetch holder cause

abbrev pub IsHeardRight : FetchMade → Holder → Outcome ReadReply → Type 0
IsHeardRight fetch holder o = Gives fetch holder o ⊎ HasCause fetch holder o

-- what the brick replies to a fetch
abbrev pub RepliesRight : FetchMade → Holder → Option ReadReply → Type 0
RepliesRight fetch holder reply = RepliesFound fetch holder reply ⊎ (RepliesCrashed fetch holder reply ⊎ RepliesSwept fetch holder reply)

some_lost : (a b : ℕ) → (nat_lt 0 a || nat_lt 0 b) ≡ true → (0 < a) ⊎ (0 < b)
some_lost a b is = go (nat_lt 0 a) (nat_lt 0 b) refl refl is
  where
    go : (x y : Bool) → nat_lt 0 a ≡ x → nat_lt 0 b ≡ y → (x || y) ≡ true → (0 < a) ⊎ (0 < b)
    go true y first second e = inl (grind (arith, nat_tests))
    go false true first second e = inr (grind (arith, nat_tests))
    go false false first second e = absurd (cc)

none_lost : (a b : ℕ) → (nat_lt 0 a || nat_lt 0 b) ≡ false → (a ≡ 0) × (b ≡ 0)
none_lost a b is = go (nat_lt 0 a) (nat_lt 0 b) refl refl is
  where
    go : (x y : Bool) → nat_lt 0 a ≡ x → nat_lt 0 b ≡ y → (x || y) ≡ false → (a ≡ 0) × (b ≡ 0)
    go true y first second e = absurd (cc)
    go false true first second e = absurd (cc)
    go false false first second e = (grind (arith, nat_tests), grind (arith, nat_tests))

-- what is heard of a brick that is heard
heard_right : (fetch : FetchMade) (holder : Holder) (others : ℕ) (reply : Option ReadReply) → WasHeard fetch holder → RepliesRight fetch holder reply → IsHeardRight fetch holder (heard_behind others reply)
heard_right fetch holder others reply heard (inl found) = inl (record { outcome_is = ap (heard_behind others) found.reply_is; uncrashed = found.uncrashed; kept = found.kept; heard = heard })
heard_right fetch holder others reply heard (inr (inl by)) =
    subst (λ r. IsHeardRight fetch holder (heard_behind others r)) (sym by.reply_is)
    (inr (record { cause = cause.Crashed by.incarnation; valueless = refl; loss_is = refl; is = (heard, by.crashed, by.count) }))
heard_right fetch holder others reply heard (inr (inr by)) =
    subst (λ r. IsHeardRight fetch holder (heard_behind others r)) (sym by.reply_is)
    (inr (record { cause = cause.Swept by.moment; valueless = refl; loss_is = refl; is = (heard, by.uncrashed, by.swept, by.late, by.last) }))

-- what is heard of a brick with a lane
on_lane_right : (fetch : FetchMade) (holder : Holder) (lane : LaneState) (reply : Option ReadReply) → HasLane fetch holder lane → RepliesRight fetch holder reply → IsHeardRight fetch holder (heard_on_lane (Some lane) reply)
on_lane_right fetch holder lane reply has right = by_queue (nat_lt (length lane.queue) MAX_STRAYS) refl
  where
    silent : Bool → Outcome ReadReply
    silent b = if b then outcome.Silent else heard_behind (length lane.queue) reply

    by_loss : (b : Bool) → (nat_lt 0 lane.to_drop || nat_lt 0 lane.to_lose) ≡ b → length lane.queue < MAX_STRAYS → IsHeardRight fetch holder (silent b)
    by_loss true lost few = inr (record { cause = cause.Silent; valueless = refl; loss_is = refl; is = record { lane = lane; has_lane = has; lost = some_lost lane.to_drop lane.to_lose lost; few = few } })
    by_loss false lost few =
        let none = none_lost lane.to_drop lane.to_lose lost in
        heard_right fetch holder (length lane.queue) reply (record { lane = lane; has_lane = has; undropped = none.0; unlost = none.1; few = few }) right

    by_queue : (b : Bool) → nat_lt (length lane.queue) MAX_STRAYS ≡ b → IsHeardRight fetch holder (if b then silent (nat_lt 0 lane.to_drop || nat_lt 0 lane.to_lose) else outcome.Strayed)
    by_queue true few = by_loss (nat_lt 0 lane.to_drop || nat_lt 0 lane.to_lose) refl (grind (arith, nat_tests))
    by_queue false many = inr (record { cause = cause.Strayed; valueless = refl; loss_is = refl; is = record { lane = lane; has_lane = has; many = grind (arith, nat_tests) } })

pub outcome_right : (fetch : FetchMade) (holder : Holder) (st : LanesState) (nonce : Version) (lane : LaneState) (reply : Option ReadReply) → fetch.lanes ≡ st.lanes → lane_at st.lanes holder.brick.0 ≡ Some lane
    → outcome_by_rule st nonce fetch.cookie holder ≡ heard_on_lane (lane_at st.lanes holder.brick.0) reply → RepliesRight fetch holder reply → IsHeardRight fetch holder (outcome_by_rule st nonce fetch.cookie holder)
outcome_right fetch holder st nonce lane reply lanes has outcome_is right =
    let its : outcome_by_rule st nonce fetch.cookie holder ≡ heard_on_lane (Some lane) reply = outcome_is ∙ ap (λ l. heard_on_lane l reply) has in
    subst (λ o. IsHeardRight fetch holder o) (sym its) (on_lane_right fetch holder lane reply (ap (λ ls. lane_at ls holder.brick.0) lanes ∙ has) right)

-- each holder is heard so
abbrev pub AreHeardRight : FetchMade → (Holder → Outcome ReadReply) → List Holder → Type 0
AreHeardRight fetch heard holders = (i : ℕ) (holder : Holder) → slice_get holders i ≡ Some holder → IsHeardRight fetch holder (heard holder)

-- the asks of holders, by what is heard of each
abbrev pub asks_of : (Holder → Outcome ReadReply) → List Holder → List (Ask Holder ReadReply)
asks_of heard holders = map (λ (holder : Holder). record { who = holder; ear = Heard (heard holder) }) holders

-- a holder of an ask
record AskOf (heard : Holder → Outcome ReadReply) (holders : List Holder) (i : ℕ) (ask : Ask Holder ReadReply) : Type 0 where
  pub holder : Holder
  pub there : slice_get holders i ≡ Some holder
  pub ask_is : ask ≡ record { who = holder; ear = Heard (heard holder) }

ask_of : (heard : Holder → Outcome ReadReply) (holders : List Holder) (i : ℕ) (ask : Ask Holder ReadReply) → slice_get (asks_of heard holders) i ≡ Some ask → AskOf heard holders i ask
ask_of heard [] i ask is = absurd (cc)
ask_of heard (h ∷ holders) zero ask is = record { holder = h; there = refl; ask_is = cc }
ask_of heard (h ∷ holders) (suc i) ask is = let more : AskOf heard holders i ask = ask_of heard holders i ask is in record { holder = more.holder; there = more.there; ask_is = more.ask_is }

-- a value that is found is the one that was written, and a holder gives it
record IsFound (fetch : FetchMade) (value : List ℕ) : Type 0 where
  pub value_is : value ≡ fetch.value
  pub serves : CanServe fetch

found_right : (fetch : FetchMade) (heard : Holder → Outcome ReadReply) (value : List ℕ) → AreHeardRight fetch heard fetch.cookie.bricks → found_in (asks_of heard fetch.cookie.bricks) ≡ Some value → IsFound fetch value
found_right fetch heard value right is =
    let at : FoundAt (asks_of heard fetch.cookie.bricks) value = found_at (asks_of heard fetch.cookie.bricks) value is in
    let of : AskOf heard fetch.cookie.bricks at.place at.ask = ask_of heard fetch.cookie.bricks at.place at.ask at.there in
    let ear : Heard (heard of.holder) ≡ Heard (outcome.Answered (get.Found value)) = ap (λ (a : Ask Holder ReadReply). a.ear) (sym of.ask_is) ∙ at.ear_is in
    go at.place of.holder of.there ear (right at.place of.holder of.there)
  where
    go : (place : ℕ) (h : Holder) → slice_get fetch.cookie.bricks place ≡ Some h → Heard (heard h) ≡ Heard (outcome.Answered (get.Found value)) → IsHeardRight fetch h (heard h) → IsFound fetch value
    go place h there ear (inl gives) =
        let its : heard h ≡ outcome.Answered (get.Found value) = cc in
        let both : outcome.Answered (get.Found value) ≡ outcome.Answered (get.Found fetch.value) = sym its ∙ gives.outcome_is in
        record { value_is = cc; serves = record { place = place; holder = h; there = there; uncrashed = gives.uncrashed; kept = gives.kept; heard = gives.heard } }
    go place h there ear (inr by) = let clash : Some value ≡ None = ap value_by (sym ear) ∙ by.valueless in absurd (cc)

-- where none is found, each holder has its cause
causes_right : (fetch : FetchMade) (heard : Holder → Outcome ReadReply) (holders : List Holder) → AreHeardRight fetch heard holders
    → ((i : ℕ) (ask : Ask Holder ReadReply) → slice_get (asks_of heard holders) i ≡ Some ask → value_of ask ≡ None) → AreCauses fetch holders (filter_map loss_of (asks_of heard holders))
causes_right fetch heard [] right none = tt
causes_right fetch heard (h ∷ holders) right none =
    go (causes_right fetch heard holders (λ i holder there. right (suc i) holder there) (λ i ask there. none (suc i) ask there)) (right 0 h refl)
  where
    go : AreCauses fetch holders (filter_map loss_of (asks_of heard holders)) → IsHeardRight fetch h (heard h) → AreCauses fetch (h ∷ holders) (filter_map loss_of (asks_of heard (h ∷ holders)))
    go later (inl gives) = let clash : Some fetch.value ≡ None = ap (λ o. value_by (Heard o)) (sym gives.outcome_is) ∙ none 0 (record { who = h; ear = Heard (heard h) }) refl in absurd (cc)
    go later (inr by) =
        let P : Option Cause → Type 0 = λ o. AreCauses fetch (h ∷ holders) (cons_option (with_brick h.brick o) (filter_map loss_of (asks_of heard holders))) in
        subst P (sym by.loss_is) (refl, by.is, later)

-- what a fetch writes is right, where each holder is heard so
pub result_right : (fetch : FetchMade) (st : LanesState) (nonce : Version) → AreHeardRight fetch (outcome_by_rule st nonce fetch.cookie) fetch.cookie.bricks
    → IsRight fetch (fetched_text fetch.key (result_by_rule st nonce fetch.now fetch.cookie))
result_right fetch st nonce right = go (nat_lt fetch.cookie.expiry.0 fetch.now.0) refl
  where
    asks : List (Ask Holder ReadReply)
    asks = asks_by_rule st nonce fetch.cookie

    by_value : (o : Option (List ℕ)) → found_in asks ≡ o → fetch.now.0 ≤ fetch.cookie.expiry.0 → IsRight fetch (fetched_text fetch.key (found_or_lost o (filter_map loss_of asks)))
    by_value (Some value) found in_time =
        let is : IsFound fetch value = found_right fetch (outcome_by_rule st nonce fetch.cookie) value right found in
        inl (record { in_time = in_time; serves = is.serves; text_is = ap (found_text fetch.key) is.value_is })
    by_value None found in_time =
        inr (inr (record {
          in_time = in_time;
          causes = filter_map loss_of asks;
          text_is = refl;
          each = causes_right fetch (outcome_by_rule st nonce fetch.cookie) fetch.cookie.bricks right (none_found asks found);
        }))

    go : (late : Bool) → nat_lt fetch.cookie.expiry.0 fetch.now.0 ≡ late
        → IsRight fetch (fetched_text fetch.key (if late then Err (Expired fetch.now fetch.cookie.expiry) else found_or_lost (found_in asks) (filter_map loss_of asks)))
    go true late = inr (inl (record { past = grind (arith, nat_tests); text_is = refl }))
    go false late = by_value (found_in asks) refl (grind (arith, nat_tests))
