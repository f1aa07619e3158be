-- By what a read was begun.
use Rattle.std.proofs.Common.{◌≡◌, ◌∙◌, refl, sym, ap, subst, ℕ, List, Result, Ok, Err, OnOk, OnErr}
use Rattle.crash_base.specs.declared.numbers.Moment.{Moment}
use Rattle.crash_base.specs.declared.numbers.SessionKey.{SessionKey}
use Rattle.crash_base.specs.declared.numbers.Version.{Version}
use Rattle.outside.specs.declared.link.LinkEvent.{LinkEvent}
use Rattle.send_windows.specs.declared.pass.Pass.{Pass}
use Rattle.session_cookie.specs.declared.cookie.Cookie.{Cookie}
use Rattle.session_cookie.specs.declared.cookie.Holder.{Holder}
use Rattle.ssm_frames.specs.declared.frame.Frame.TheVariants.{Put}
use Rattle.ssm_stub.specs.declared.event.Told.{Told}
use Rattle.ssm_stub.specs.declared.reply.ReadReply.{ReadReply}
use Rattle.ssm_stub.specs.Reads.{ReadState, get_lawful, hear_read, read_ask, read_machine, read_start, turn_of_read}
use Rattle.ssm_stub.specs.Runs.{Steps, told_of}
use Rattle.ssm_stub.proofs.Concluding.{asks_after-keeps, none_asked-whos}
use Rattle.session_way.specs.Asks.{IsAskOf}
use Rattle.session_way.specs.Reading.{IsBegunBy, cookie_asked}
use Rattle.session_way.specs.Writing.{IsBegunOf, write_begun}
use Rattle.session_way.specs.declared.session_write.WriteOrder.{WriteOrder}

-- a read of which nothing was sent
begun_by : (now : Moment) (nonce : Version) (cookie : Cookie) → IsBegunBy now nonce cookie (read_start now nonce cookie)
begun_by now nonce cookie = record {
  moment = refl;
  nonce = refl;
  key = refl;
  version = refl;
  expiry = refl;
  bricks = sym (none_asked-whos ReadReply cookie.bricks);
}

pub begun_from : (now : Moment) (nonce : Version) (cookie kept : Cookie) (r : ReadState) → kept ≡ cookie → r ≡ read_start now nonce cookie → IsBegunBy now nonce kept r
begun_from now nonce cookie kept r same is =
    subst (λ (x : ReadState). IsBegunBy now nonce kept x) (sym is)
    (subst (λ (k : Cookie). IsBegunBy now nonce k (read_start now nonce cookie)) (sym same) (begun_by now nonce cookie))

-- what a read that is held says of its ask, and by what it was begun
abbrev pub Says : List ℕ → Moment → Version → Cookie → ReadState → Type 0
Says bytes now nonce cookie r = IsAskOf bytes (read_ask r) × IsBegunBy now nonce cookie r

heard_says : (bytes : List ℕ) (now : Moment) (nonce : Version) (cookie : Cookie) (r : ReadState) (told : Told) → Says bytes now nonce cookie r → Says bytes now nonce cookie (hear_read r told)
heard_says bytes now nonce cookie r told (ask, by) = (
  ask,
  record {
    moment = by.moment;
    nonce = by.nonce;
    key = by.key;
    version = by.version;
    expiry = by.expiry;
    bricks = by.bricks ∙ sym (asks_after-keeps (λ (holder : Holder). holder) (get_lawful r.nonce r.key r.version r.expiry) told r.asks (turn_of_read r));
  },
)

-- a step outside changes nothing of it
pub step_says : {A E L : Type 0} (result : Result A E) (makes : L → LinkEvent → L → Type 0) (ask bytes : List ℕ) (now : Moment) (nonce : Version) (cookie : Cookie) (r : ReadState) (old : L) (end : ReadState) (new : L)
    → Says bytes now nonce cookie r → OnOk result (Steps read_machine makes ask r old end new) → OnErr result (end ≡ r) → Says bytes now nonce cookie end
step_says (Ok done) makes ask bytes now nonce cookie r old end new says step same =
    subst (Says bytes now nonce cookie) (sym step.hears) (heard_says bytes now nonce cookie r (told_of step.event) says)
step_says (Err error) makes ask bytes now nonce cookie r old end new says step same =
    subst (Says bytes now nonce cookie) (sym same) says

-- the cookie that is told
pub cookie_begun : (now : Moment) (nonce : Version) (cookie : Cookie) → cookie_asked (read_start now nonce cookie) ≡ cookie
cookie_begun now nonce cookie = ap (λ (bricks : List Holder). record cookie { bricks = bricks }) (none_asked-whos ReadReply cookie.bricks)

pub cookie_stays : (r : ReadState) (told : Told) → cookie_asked (hear_read r told) ≡ cookie_asked r
cookie_stays r told =
    ap (λ (bricks : List Holder). record (cookie_asked r) { bricks = bricks })
    (asks_after-keeps (λ (holder : Holder). holder) (get_lawful r.nonce r.key r.version r.expiry) told r.asks (turn_of_read r))

-- the order that is told
pub order_begun : (order copy : WriteOrder) (least : ℕ) (passes : List Pass) → IsBegunOf copy (write_begun order least passes).write → copy ≡ order
order_begun order copy least passes is =
    let value : copy.value ≡ order.value = (let same : Put order.nonce order.key order.nonce order.expiry order.value ≡ Put copy.nonce copy.key copy.nonce copy.expiry copy.value = is.ask in cc) in
    ap (λ (nonce : Version). record copy { nonce = nonce }) is.nonce
    ∙ (ap (λ (key : SessionKey). record copy { nonce = order.nonce; key = key }) is.key
    ∙ (ap (λ (value : List ℕ). record copy { nonce = order.nonce; key = order.key; value = value }) value
    ∙ ap (λ (expiry : Moment). record order { expiry = expiry }) is.expiry))
