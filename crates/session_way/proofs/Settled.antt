-- Passes whose write has heard all its bricks.
use Rattle.std.proofs.Common.{◌≡◌, ◌≢◌, ◌∙◌, ap, refl, subst, ℕ, zero, suc, ◌==◌, Bool, true, false, if◌then◌else◌, List, [], ◌∷◌, map, Some, None, slice_get}
use Rattle.crash_base.specs.declared.numbers.BrickNo.{BrickNo}
use Rattle.send_windows.specs.declared.pass.Pass.{Pass}
use Rattle.send_windows.specs.declared.pass.PassMark.{PassMark}
use Rattle.send_windows.specs.declared.pass.PassMark.TheVariants as mark
use Rattle.send_windows.specs.Passes.{hushed, with_mark}
use Rattle.ssm_stub.specs.declared.ask.Ask.{Ask}
use Rattle.ssm_stub.specs.declared.ear.Ear.{Ear}
use Rattle.ssm_stub.specs.declared.ear.Ear.TheVariants.{Open, Heard}
use Rattle.ssm_stub.specs.declared.ear.Outcome.TheVariants.{Answered, Silent, Strayed}
use Rattle.ssm_stub.specs.declared.event.StubNext.{StubNext}
use Rattle.ssm_stub.specs.declared.event.StubNext.TheVariants.{Send, Receive, Ended}
use Rattle.ssm_stub.specs.declared.event.Told.{Told}
use Rattle.ssm_stub.specs.declared.reply.WriteReply.{WriteReply}
use Rattle.ssm_stub.specs.Ends.{bricks_of}
use Rattle.ssm_stub.specs.Runs.{after}
use Rattle.ssm_stub.specs.Turns.{is_open, turn_after_asks}
use Rattle.ssm_stub.specs.Writes.{WriteState, heard_passes, mark_by, mark_in, write_machine, write_next}
use Rattle.ssm_stub.proofs.Concluding.{none_asked-whos, wanted-ended, write-keeps}
use Rattle.ssm_stub.proofs.Searching.{all_heard}
use Rattle.ssm_stub.proofs.Tests.{number_same}
use Rattle.session_way.specs.declared.session_write.WriteOrder.{WriteOrder}
use Rattle.session_way.specs.declared.way.Wants.TheVariants.{Windows}
use Rattle.session_way.specs.Way.{outside_or}
use Rattle.session_way.specs.Writing.{write_begun}

-- a settled write wants nothing of the link
pub wants_nothing : (next : StubNext) → outside_or Windows next ≡ Windows → next ≡ Ended
wants_nothing (Send brick) h = absurd cc
wants_nothing (Receive brick) h = absurd cc
wants_nothing Ended h = refl

-- a brick that has its outcome has a mark
heard_mark : (who : BrickNo) (ear : Ear WriteReply) → is_open (record { who = who; ear = ear }) ≡ false → mark_by ear ≢ mark.Unheard
heard_mark who (Open stage) h = absurd cc
heard_mark who (Heard (Answered reply)) h = λ e. cc
heard_mark who (Heard Silent) h = λ e. cc
heard_mark who (Heard Strayed) h = λ e. cc

by_test : (test : Bool) (x y : PassMark) → (test ≡ true → x ≢ mark.Unheard) → (test ≡ false → y ≢ mark.Unheard) → (if test then x else y) ≢ mark.Unheard
by_test true x y here there = here refl
by_test false x y here there = there refl

-- the mark of a brick that was asked, where all have their outcomes
mark_known : (asks : List (Ask BrickNo WriteReply)) → ((i : ℕ) (ask : Ask BrickNo WriteReply) → slice_get asks i ≡ Some ask → is_open ask ≡ false) → (brick : BrickNo) (i : ℕ) → slice_get (map (λ (ask : Ask BrickNo WriteReply). ask.who) asks) i ≡ Some brick → mark_in asks brick ≢ mark.Unheard
mark_known [] heard brick zero here = absurd cc
mark_known [] heard brick (suc i) here = absurd cc
mark_known (ask ∷ asks) heard brick zero here =
    let same : ask.who ≡ brick = cc in
    let test : (ask.who.0 == brick.0) ≡ true = (let P : BrickNo → Type 0 = λ b. (ask.who.0 == b.0) ≡ true in subst P same (number_same ask.who.0)) in
    by_test (ask.who.0 == brick.0) (mark_by ask.ear) (mark_in asks brick) (λ e. heard_mark ask.who ask.ear (heard zero ask refl)) (λ e. absurd cc)
mark_known (ask ∷ asks) heard brick (suc i) here =
    by_test (ask.who.0 == brick.0) (mark_by ask.ear) (mark_in asks brick) (λ e. heard_mark ask.who ask.ear (heard zero ask refl))
    (λ e. mark_known asks (λ j other there. heard (suc j) other there) brick i here)

hush_same : (brick : BrickNo) (m : PassMark) → m ≢ mark.Unheard → hushed (record { brick = brick; mark = m }) ≡ record { brick = brick; mark = m }
hush_same brick mark.Unheard known = absurd (known refl)
hush_same brick mark.Answered known = refl
hush_same brick mark.Silent known = refl

all_same : (write : WriteState) (passes : List Pass) → ((i : ℕ) (brick : BrickNo) → slice_get (bricks_of passes) i ≡ Some brick → mark_in write.asks brick ≢ mark.Unheard) → map hushed (heard_passes write passes) ≡ heard_passes write passes
all_same write [] known = refl
all_same write (pass ∷ passes) known =
    let pass' : Pass = with_mark pass (mark_in write.asks pass.brick) in
    ap (λ (p : Pass). p ∷ map hushed (heard_passes write passes)) (hush_same pass.brick (mark_in write.asks pass.brick) (known zero pass.brick refl))
    ∙ ap (λ (ps : List Pass). pass' ∷ ps) (all_same write passes (λ i brick there. known (suc i) brick there))

-- a write that wants nothing more has heard each of its passes' bricks
pub none_hushed : (order : WriteOrder) (least : ℕ) (passes : List Pass) (told : List Told) (here : WriteState) → here ≡ after write_machine (write_begun order least passes).write told → outside_or Windows (write_next here) ≡ Windows → map hushed (heard_passes here passes) ≡ heard_passes here passes
none_hushed order least passes told here is wants =
    let start = (write_begun order least passes).write in
    let ended : write_next here ≡ Ended = wants_nothing (write_next here) wants in
    let turn : turn_after_asks here.asks ≡ None = wanted-ended (λ (brick : BrickNo). brick) (turn_after_asks here.asks) ended in
    let whos : map (λ (ask : Ask BrickNo WriteReply). ask.who) here.asks ≡ bricks_of passes = ap (λ (s : WriteState). map (λ (ask : Ask BrickNo WriteReply). ask.who) s.asks) is ∙ (write-keeps told start ∙ none_asked-whos WriteReply (bricks_of passes)) in
    all_same here passes (λ i brick there. mark_known here.asks (all_heard here.asks turn) brick i (ap (λ (bricks : List BrickNo). slice_get bricks i) whos ∙ there))
