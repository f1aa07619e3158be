-- The holders that a written cookie names.
use Rattle.std.proofs.Common.{◌≡◌, ◌≢◌, ◌∙◌, ap, sym, refl, subst, ℕ, zero, suc, ◌≤◌, All, List, [], ◌∷◌, take, filter_map, Option, Some, None}
use Rattle.std.proofs.lemmas.List.Elements.{All-nil, All-cons, All-head, All-tail}
use Rattle.std.specs.List.{cons_option}
use Rattle.crash_base.specs.declared.numbers.BrickNo.{BrickNo}
use Rattle.crash_base.specs.declared.numbers.Moment.{Moment}
use Rattle.crash_base.specs.declared.numbers.SessionKey.{SessionKey}
use Rattle.crash_base.specs.declared.numbers.Version.{Version}
use Rattle.outside.specs.declared.link.LinkEvent.{LinkEvent}
use Rattle.session_cookie.specs.declared.cookie.Cookie.{Cookie}
use Rattle.session_cookie.specs.declared.cookie.Holder.{Holder}
use Rattle.session_cookie.specs.declared.cookie.TheConstants.{MAX_HOLDERS}
use Rattle.session_cookie.specs.Cookie.{AreDistinct, AreHolders}
use Rattle.send_windows.specs.declared.pass.Pass.{Pass}
use Rattle.send_windows.specs.Passes.{HaveDistinctBricks}
use Rattle.ssm_stub.specs.declared.ear.Ear.{Ear}
use Rattle.ssm_stub.specs.declared.ear.Ear.TheVariants.{Open, Heard}
use Rattle.ssm_stub.specs.declared.ear.Outcome.TheVariants.{Answered, Silent, Strayed}
use Rattle.ssm_stub.specs.declared.reply.WriteReply.{WriteReply}
use Rattle.ssm_stub.specs.declared.reply.WriteReply.TheVariants.{Stored, Full}
use Rattle.ssm_stub.specs.Ears.{ear_after}
use Rattle.ssm_stub.specs.Ends.{bricks_of}
use Rattle.ssm_stub.specs.Hearing.{all_about}
use Rattle.ssm_stub.specs.Outcomes.{IsWritten, stored_by}
use Rattle.ssm_stub.specs.Writes.{holder_by, put_lawful}

-- a holder is the brick that stored the value
holder_brick : (brick : BrickNo) (ear : Ear WriteReply) (h : Holder) → holder_by brick ear ≡ Some h → h.brick ≡ brick
holder_brick brick (Open stage) h is = absurd cc
holder_brick brick (Heard (Answered (Stored incarnation))) h is =
    let same : record { brick = brick; incarnation = incarnation } ≡ h = cc in
    sym (ap (λ (other : Holder). other.brick) same)
holder_brick brick (Heard (Answered (Full entries bytes))) h is = absurd cc
holder_brick brick (Heard Silent) h is = absurd cc
holder_brick brick (Heard Strayed) h is = absurd cc

-- each holder that this gives is of the brick that it is given for
abbrev IsOfBrick : (BrickNo → Option Holder) → Type 0
IsOfBrick f = (brick : BrickNo) (h : Holder) → f brick ≡ Some h → h.brick ≡ brick

-- a brick apart from others
abbrev IsApart : BrickNo → Holder → Type 0
IsApart brick h = brick.0 ≢ h.brick.0

apart_more : (brick from : BrickNo) (o : Option Holder) (hs : List Holder) → ((h : Holder) → o ≡ Some h → h.brick ≡ from) → brick.0 ≢ from.0 → All (IsApart brick) hs → All (IsApart brick) (cons_option o hs)
apart_more brick from None hs is apart all = all
apart_more brick from (Some h) hs is apart all = All-cons (IsApart brick) h hs (λ e. apart (e ∙ ap (λ (b : BrickNo). b.0) (is h refl))) all

named_apart : (f : BrickNo → Option Holder) → IsOfBrick f → (brick : BrickNo) (passes : List Pass) → All (λ (other : Pass). brick.0 ≢ other.brick.0) passes → All (IsApart brick) (filter_map f (bricks_of passes))
named_apart f is brick [] all = All-nil (IsApart brick)
named_apart f is brick (pass ∷ passes) all =
    apart_more brick pass.brick (f pass.brick) (filter_map f (bricks_of passes)) (is pass.brick)
    (All-head (λ (other : Pass). brick.0 ≢ other.brick.0) pass passes all)
    (named_apart f is brick passes (All-tail (λ (other : Pass). brick.0 ≢ other.brick.0) pass passes all))

distinct_more : (from : BrickNo) (o : Option Holder) (hs : List Holder) → ((h : Holder) → o ≡ Some h → h.brick ≡ from) → All (IsApart from) hs → AreDistinct hs → AreDistinct (cons_option o hs)
distinct_more from None hs is apart rest = rest
distinct_more from (Some h) hs is apart rest = (let P : BrickNo → Type 0 = λ b. All (IsApart b) hs in subst P (sym (is h refl)) apart, rest)

named_distinct : (f : BrickNo → Option Holder) → IsOfBrick f → (passes : List Pass) → HaveDistinctBricks passes → AreDistinct (filter_map f (bricks_of passes))
named_distinct f is [] distinct = tt
named_distinct f is (pass ∷ passes) (apart, rest) =
    distinct_more pass.brick (f pass.brick) (filter_map f (bricks_of passes)) (is pass.brick) (named_apart f is pass.brick passes apart) (named_distinct f is passes rest)

apart_first : (brick : BrickNo) (n : ℕ) (hs : List Holder) → All (IsApart brick) hs → All (IsApart brick) (take n hs)
apart_first brick zero hs all = All-nil (IsApart brick)
apart_first brick (suc n) [] all = All-nil (IsApart brick)
apart_first brick (suc n) (h ∷ hs) all =
    All-cons (IsApart brick) h (take n hs) (All-head (IsApart brick) h hs all) (apart_first brick n hs (All-tail (IsApart brick) h hs all))

distinct_first : (n : ℕ) (hs : List Holder) → AreDistinct hs → AreDistinct (take n hs)
distinct_first zero hs distinct = tt
distinct_first (suc n) [] distinct = tt
distinct_first (suc n) (h ∷ hs) (apart, rest) = (apart_first h.brick n hs apart, distinct_first n hs rest)

-- a cookie that a write gave may be read
pub written_holders : {L : Type 0} (makes : L → LinkEvent → L → Type 0) (passes : List Pass) (least : ℕ) (nonce : Version) (key : SessionKey) (expiry : Moment) (old new : L) (cookie : Cookie) → HaveDistinctBricks passes → 1 ≤ least → least ≤ MAX_HOLDERS → IsWritten makes (bricks_of passes) least nonce key expiry old new cookie → AreHolders cookie.bricks
written_holders makes passes least nonce key expiry old new cookie distinct some few w =
    let f : BrickNo → Option Holder = stored_by nonce key w.calls in
    let of_brick : IsOfBrick f = λ brick h is. holder_brick brick (ear_after (put_lawful nonce key brick) (all_about brick w.calls)) h is in
    let P : List Holder → Type 0 = AreDistinct in
    (rw w.enough some, rw w.enough few, subst P (sym w.first) (distinct_first least (filter_map f (bricks_of passes)) (named_distinct f of_brick passes distinct)))
