-- Runs, step by step.
use Rattle.std.proofs.Common.{◌≡◌, ◌∙◌, inl, inr, refl, sym, ap, subst, ℕ, ◌≤◌, Bool, true, false, cond, List, [], ◌∷◌, ◌++◌, Option, Some, None, is_some, not, ◌&&◌, arith}
use Rattle.std.proofs.lemmas.List.{append-nil, append_assoc}
use Rattle.std.proofs.lemmas.List.Elements.{All-nil}
use Rattle.auction_rows.specs.Parts.{site_parts}
use Rattle.boot_core.specs.declared.boot.Start.{Start}
use Rattle.container_core.specs.Container.{ContainerValue, HasGrownBy}
use Rattle.container_core.specs.declared.history.Event.{Event}
use Rattle.crash_base.specs.declared.rows.RowWrite.{RowWrite}
use Rattle.journal_model.specs.declared.entry.Entry.{Entry}
use Rattle.outside.specs.Faults.{Rose}
use Rattle.outside.specs.Keeper.{KeeperTold}
use Rattle.scenario_text.specs.Answer.{Answer, Refused, Done, answer_of, or_refused, refused_if}
use Rattle.scenario_text.specs.declared.answer.LineAnswer.{LineAnswer}
use Rattle.scenario_text.specs.declared.answer.LineAnswer.TheVariants as answers
use Rattle.scenario_text.specs.declared.seat_line.SeatLine.{SeatLine}
use Rattle.scenario_text.specs.declared.seat_line.SeatLine.TheVariants as lines
use Rattle.scenario_text.specs.declared.seat_line.TheConstants.{MAX_SEAT}
use Rattle.session_lanes.specs.Lanes.{LanesState}
use Rattle.session_steps.specs.Kept.{HasSoundStore}
use Rattle.session_steps.specs.Lent.{LentSessionsState, lent_out, put_back}
use Rattle.session_steps.specs.Sessions.{SessionsState}
use Rattle.seat_steps.specs.Gone.{seat_gone}
use Rattle.seat_steps.specs.declared.seat.Seat.{Seat}
use Rattle.seat_lines.specs.Changing.{makes_steps}
use Rattle.seat_lines.specs.Giving.{given_back}
use Rattle.seat_lines.specs.Handing.{AreCounted, AreHanded, BreaksRun, BreaksStep, Handed, HasDone, HasMadeStep, HasRunTo, RunsOnce, TellsHanded, handed_first, run_hands, step_hands, writes_by}
use Rattle.seat_lines.specs.Lines.{is_beyond, step_line, step_over, text_of}
use Rattle.seat_lines.specs.Making.{StepHearsSpelled, WasMade}
use Rattle.seat_lines.specs.Runs.{can_run, going, rests, run_from, run_line, seat_line, steps_from}
use Rattle.seat_lines.specs.Site.{AllGoOn, SeatsState, SiteState, seat_at, site_in}
use Rattle.seat_lines.proofs.Handing.{all_handed, handed_none, nothing_kept}
use Rattle.seat_lines.proofs.Making.{no_step, one_more, one_step}
use Rattle.seat_lines.proofs.Placing.{IsDone, not_beyond}

-- what is handed first and then more
told_on : (a b : List Handed) (old mid new : Option KeeperTold) → TellsHanded a old mid → TellsHanded b mid new → TellsHanded (a ++ b) old new
told_on [] b old mid new is tells = subst (λ (x : Option KeeperTold). TellsHanded b x new) is tells
told_on (h ∷ a) b old mid new (between, reply, rest) tells = (between, reply, told_on a b between mid new rest tells)

rose_from : (old mid new : ℕ) → old ≤ mid → Rose mid new → Rose old new
rose_from old mid new least rose = grind (arith, least, rose)

counted_from : (b : List Handed) (old mid new : ℕ) → old ≤ mid → AreCounted b mid new → AreCounted b old new
counted_from [] old mid new least counted = omega (arith, least, counted)
counted_from (h ∷ b) old mid new least (between, more, failed, rest) =
    (between, omega (arith, least, more), λ e. rose_from old mid between least (failed e), rest)

counted_on : (a b : List Handed) (old mid new : ℕ) → AreCounted a old mid → AreCounted b mid new → AreCounted (a ++ b) old new
counted_on [] b old mid new least counted = counted_from b old mid new least counted
counted_on (h ∷ a) b old mid new (between, least, failed, rest) counted = (between, least, failed, counted_on a b between mid new rest counted)

handed_on : (a b : List Handed) (old mid new : ContainerValue) → AreHanded a old mid → AreHanded b mid new → AreHanded (a ++ b) old new
handed_on a b old mid new first second = record {
  tells = told_on a b old.told mid.told new.told first.tells second.tells;
  counted = counted_on a b old.faults mid.faults new.faults first.counted second.counted;
}

first_on : (writes : List RowWrite) (keeps : Bool) (a b : List Handed) → handed_first writes keeps (a ++ b) ≡ handed_first writes keeps a ++ b
first_on [] keeps a b = refl
first_on (w ∷ ws) keeps a b = refl

-- what is handed by the answer to a step of a run, and by the steps behind it
abbrev HandsThen : SiteState → ℕ → Bool → List Bool → Answer SiteState → List Handed
HandsThen s n keeps more answer = elim answer [ Refused ↦ [] | Done t out ↦ handed_first (writes_by (seat_at s.seats.seats n) s.boot) keeps (run_hands t n more) ]

-- the site behind the answer to a step of a run, and behind the steps that follow
abbrev StepsThen : ℕ → List Bool → Answer SiteState → Option SiteState
StepsThen n more answer = elim answer [ Refused ↦ None | Done t out ↦ steps_from t n more ]

-- steps of a run, and more of it: the site, and what is handed
steps_on : (s t : SiteState) (n : ℕ) (replies more : List Bool) → steps_from s n replies ≡ Some t → steps_from s n (replies ++ more) ≡ steps_from t n more
steps_on s t n [] more is = ap (λ (o : Option SiteState). elim o [ None ↦ None | Some x ↦ steps_from x n more ]) is
steps_on s t n (keeps ∷ replies) more is = go (rests (seat_at s.seats.seats n)) (λ x e. steps_on x t n replies more e) is where
  by : (answer : Answer SiteState) → ((x : SiteState) → steps_from x n replies ≡ Some t → steps_from x n (replies ++ more) ≡ steps_from t n more) → StepsThen n replies answer ≡ Some t → StepsThen n (replies ++ more) answer ≡ steps_from t n more
  by Refused later e = absurd (cc)
  by (Done x out) later e = later x e

  go : (b : Bool) → ((x : SiteState) → steps_from x n replies ≡ Some t → steps_from x n (replies ++ more) ≡ steps_from t n more) → cond b None (StepsThen n replies (step_line s n keeps)) ≡ Some t → cond b None (StepsThen n (replies ++ more) (step_line s n keeps)) ≡ steps_from t n more
  go true later e = absurd (cc)
  go false later e = by (step_line s n keeps) later e

hands_on : (s t : SiteState) (n : ℕ) (replies more : List Bool) → steps_from s n replies ≡ Some t → run_hands s n (replies ++ more) ≡ run_hands s n replies ++ run_hands t n more
hands_on s t n [] more is = ap (λ (o : Option SiteState). elim o [ None ↦ [] | Some x ↦ run_hands x n more ]) is
hands_on s t n (keeps ∷ replies) more is = go (rests (seat_at s.seats.seats n)) (λ x e. hands_on x t n replies more e) is where
  by : (answer : Answer SiteState) → ((x : SiteState) → steps_from x n replies ≡ Some t → run_hands x n (replies ++ more) ≡ run_hands x n replies ++ run_hands t n more) → StepsThen n replies answer ≡ Some t → HandsThen s n keeps (replies ++ more) answer ≡ HandsThen s n keeps replies answer ++ run_hands t n more
  by Refused later e = absurd (cc)
  by (Done x out) later e =
      let writes : List RowWrite = writes_by (seat_at s.seats.seats n) s.boot in
      ap (handed_first writes keeps) (later x e) ∙ first_on writes keeps (run_hands x n replies) (run_hands t n more)

  go : (b : Bool) → ((x : SiteState) → steps_from x n replies ≡ Some t → run_hands x n (replies ++ more) ≡ run_hands x n replies ++ run_hands t n more) → cond b None (StepsThen n replies (step_line s n keeps)) ≡ Some t → cond b [] (HandsThen s n keeps (replies ++ more) (step_line s n keeps)) ≡ cond b [] (HandsThen s n keeps replies (step_line s n keeps)) ++ run_hands t n more
  go true later e = absurd (cc)
  go false later e = by (step_line s n keeps) later e

-- one step of a run that is not at its end
one_from : (s t : SiteState) (text out : List ℕ) (n : ℕ) (keeps : Bool) (more : List Bool) → rests (seat_at s.seats.seats n) ≡ false → step_line s n keeps ≡ Done t out → run_from s text n (keeps ∷ more) ≡ run_from t (text ++ out) n more
one_from s t text out n keeps more going is =
    ap (λ (b : Bool). cond b (Some (Done s text)) (after (step_line s n keeps))) going ∙ ap after is where
      after : Answer SiteState → Option (Answer SiteState)
      after answer = elim answer [ Refused ↦ Some Refused | Done x more_text ↦ run_from x (text ++ more_text) n more ]

one_steps : (s t : SiteState) (out : List ℕ) (n : ℕ) (keeps : Bool) → rests (seat_at s.seats.seats n) ≡ false → step_line s n keeps ≡ Done t out → steps_from s n (keeps ∷ []) ≡ Some t
one_steps s t out n keeps going is = ap (λ (b : Bool). cond b None (StepsThen n [] (step_line s n keeps))) going ∙ ap (StepsThen n []) is

one_hands : (s : SiteState) (n : ℕ) (keeps : Bool) → rests (seat_at s.seats.seats n) ≡ false → run_hands s n (keeps ∷ []) ≡ step_hands s n (keeps ∷ [])
one_hands s n keeps going = ap (λ (b : Bool). cond b [] (HandsThen s n keeps [] (step_line s n keeps))) going

-- what an answer that is done writes
done_text : (a : LineAnswer) (s t : SiteState) (out : List ℕ) → answer_of a s ≡ Done t out → answer_of a s ≡ Done s (text_of a)
done_text answers.Refused s t out is = absurd (cc)
done_text answers.Done s t out is = refl
done_text (answers.Wrote text) s t out is = refl

module _ (n : ℕ) (old : ContainerValue) (sessions : SessionsState) (seats : SeatsState) where
  abbrev start : SiteState
  start = site_in old sessions seats

  -- a run begins
  pub run_begins : HasRunTo n old sessions seats old sessions seats []
  run_begins = record { replies = []; steps = refl; comes = λ more. refl; handed = handed_none old; heard = All-nil StepHearsSpelled; made = All-nil WasMade }

  module _ (mid : ContainerValue) (mid_sessions : SessionsState) (mid_seats : SeatsState) (text : List ℕ) (run : HasRunTo n old sessions seats mid mid_sessions mid_seats text) where
    abbrev here : SiteState
    here = site_in mid mid_sessions mid_seats

    -- it makes one more step
    pub run_goes_on : (new : ContainerValue) (new_sessions : SessionsState) (new_seats : SeatsState) (new_text : List ℕ) → rests (seat_at mid_seats.seats n) ≡ false → RunsOnce n mid mid_sessions mid_seats text new new_sessions new_seats new_text → HasRunTo n old sessions seats new new_sessions new_seats new_text
    run_goes_on new new_sessions new_seats new_text going once =
        let there : SiteState = site_in new new_sessions new_seats in
        let replies : List Bool = run.replies ++ once.keeps ∷ [] in
        record {
          replies = replies;
          steps = steps_on start here n run.replies (once.keeps ∷ []) run.steps ∙ one_steps here there once.out n once.keeps going once.step_is;
          comes = λ more.
              ap (run_from start [] n) (append_assoc run.replies (once.keeps ∷ []) more)
              ∙ (run.comes (once.keeps ∷ more)
              ∙ (one_from here there text once.out n once.keeps more going once.step_is
              ∙ ap (λ (x : List ℕ). run_from there x n more) (sym once.text_is)));
          handed = subst (λ (handed : List Handed). AreHanded handed old new) (sym (hands_on start here n run.replies (once.keeps ∷ []) run.steps ∙ ap (λ (x : List Handed). run_hands start n run.replies ++ x) (one_hands here n once.keeps going)))
              (handed_on (run_hands start n run.replies) (step_hands here n (once.keeps ∷ [])) old mid new run.handed once.handed);
          heard = one_more StepHearsSpelled start here there n run.replies once.keeps once.out run.steps going once.step_is run.heard once.heard;
          made = one_more WasMade start here there n run.replies once.keeps once.out run.steps going once.step_is run.made once.made;
        }

    -- memory runs out in its next step
    pub run_breaks : (new : ContainerValue) → can_run here n ≡ true → rests (seat_at mid_seats.seats n) ≡ false → BreaksStep n mid mid_sessions mid_seats new → BreaksRun n old sessions seats new
    run_breaks new can going broke = record {
      replies = run.replies;
      mid = mid;
      mid_sessions = mid_sessions;
      mid_seats = mid_seats;
      steps = run.steps;
      handed = run.handed;
      heard = run.heard;
      made = run.made;
      there = can;
      goes_on = going;
      last = broke;
    }

    -- it is given up, and is not at its end
    pub run_gives_up : can_run here n ≡ true → rests (seat_at mid_seats.seats n) ≡ false → BreaksRun n old sessions seats mid
    run_gives_up can going = run_breaks mid can going (record {
      keeps = true;
      handed = nothing_kept (step_hands here n (true ∷ [])) mid mid (inl refl) (omega (arith));
      added = inl (refl, (refl, refl));
    })

    -- it is at its end
    pub run_ends : can_run start n ≡ true → rests (seat_at mid_seats.seats n) ≡ true → HasDone (lines.Run n) old sessions seats (Done here text) mid
    unfolding run_line
    run_ends can at_rest = record {
      replies = run.replies;
      answers = sym (
          ap (λ (b : Bool). cond b (run_from start [] n run.replies) (Some Refused)) can
          ∙ (ap (run_from start [] n) (sym (append-nil run.replies))
          ∙ (run.comes []
          ∙ ap (λ (b : Bool). cond b (Some (Done here text)) None) at_rest))
          );
      handed = run.handed;
      heard = run.heard;
      made = run.made;
    }

  -- a run that cannot begin is refused
  pub run_refused : can_run start n ≡ false → HasDone (lines.Run n) old sessions seats Refused old
  unfolding run_line
  run_refused can = record {
    replies = [];
    answers = sym (ap (λ (b : Bool). cond b (run_from start [] n []) (Some Refused)) can);
    handed = handed_none old;
    heard = All-nil StepHearsSpelled;
    made = All-nil WasMade;
  }

  -- a step is a line
  pub step_done : (answer : Answer SiteState) (new : ContainerValue) → HasMadeStep n old sessions seats answer new → HasDone (lines.Step n) old sessions seats answer new
  step_done answer new made = record {
    replies = made.keeps ∷ [];
    answers = ap (λ (x : Answer SiteState). Some x) made.answers;
    handed = made.handed;
    heard = one_step StepHearsSpelled start n made.keeps made.heard;
    made = one_step WasMade start n made.keeps made.made;
  }

  -- the line by which a connection goes is refused, where its step is
  pub going_refused : (to_rest : Bool) → step_line start n true ≡ Refused → can_run start n ≡ false → HasDone (going to_rest n) old sessions seats Refused old
  going_refused true step can = run_refused can
  going_refused false step can = record {
    replies = true ∷ [];
    answers = ap (λ (x : Answer SiteState). Some x) (sym step);
    handed = subst (λ (handed : List Handed). AreHanded handed old old) (sym (ap (λ (x : Answer SiteState). elim x [ Refused ↦ [] | Done t out ↦ handed_first (writes_by (seat_at start.seats.seats n) start.boot) true [] ]) step)) (handed_none old);
    heard = no_step StepHearsSpelled start n true step;
    made = no_step WasMade start n true step;
  }

-- what a step that is done wrote
told_by : (a : LineAnswer) (s : SiteState) (answer : Answer SiteState) → answer_of a s ≡ answer → IsDone answer → answer ≡ Done s (text_of a)
told_by a s answer is (t, out, done) = sym is ∙ done_text a s t out (is ∙ done)

-- a step that a run made behind its text
pub runs_once : (n : ℕ) (old : ContainerValue) (sessions : SessionsState) (seats : SeatsState) (text : List ℕ) (new : ContainerValue) (new_sessions : SessionsState) (new_seats : SeatsState) (new_text : List ℕ) (a : LineAnswer) → HasMadeStep n old sessions seats (answer_of a (site_in new new_sessions new_seats)) new → ((keeps : Bool) → IsDone (step_line (site_in old sessions seats) n keeps)) → new_text ≡ text ++ text_of a → RunsOnce n old sessions seats text new new_sessions new_seats new_text
runs_once n old sessions seats text new new_sessions new_seats new_text a made done is = record {
  keeps = made.keeps;
  out = text_of a;
  step_is = told_by a (site_in new new_sessions new_seats) (step_line (site_in old sessions seats) n made.keeps) made.answers (done made.keeps);
  text_is = is;
  handed = made.handed;
  heard = made.heard;
  made = made.made;
}

-- memory ran out behind a step that was made
pub made_breaks : (n : ℕ) (old : ContainerValue) (sessions : SessionsState) (seats : SeatsState) (a : LineAnswer) (new : ContainerValue) (new_sessions : SessionsState) (new_seats : SeatsState) → HasMadeStep n old sessions seats (answer_of a (site_in new new_sessions new_seats)) new → ((keeps : Bool) → IsDone (step_line (site_in old sessions seats) n keeps)) → BreaksStep n old sessions seats new
made_breaks n old sessions seats a new new_sessions new_seats made done =
    let there : SiteState = site_in new new_sessions new_seats in
    record {
      keeps = made.keeps;
      handed = all_handed (step_hands (site_in old sessions seats) n (made.keeps ∷ [])) old new made.handed;
      added = inr (refl, refl, (there, text_of a, told_by a there (step_line (site_in old sessions seats) n made.keeps) made.answers (done made.keeps), refl, refl), made.heard);
    }

-- what holds while a run goes on
pub record Runs (n : ℕ) (old : ContainerValue) (sessions : SessionsState) (seats : SeatsState) (mid : ContainerValue) (mid_sessions : SessionsState) (mid_seats : SeatsState) (text : List ℕ) (store : Option LanesState) : Type 0 where
  pub run : HasRunTo n old sessions seats mid mid_sessions mid_seats text
  pub sound : HasSoundStore store
  pub goes : AllGoOn mid mid_seats
  pub grown : HasGrownBy old mid
  pub count : old.faults ≤ mid.faults
  pub site : mid.boot.start.deployment ≡ site_parts

grown_none : (c : ContainerValue) → HasGrownBy c c
grown_none c = record {
  boot = record { start = refl; more = []; entries = sym (append-nil c.boot.entries) };
  more = [];
  since = sym (append-nil c.since);
}

grown_on : (a b c : ContainerValue) → HasGrownBy a b → HasGrownBy b c → HasGrownBy a c
grown_on a b c first second = record {
  boot = record {
    start = second.boot.start ∙ first.boot.start;
    more = first.boot.more ++ second.boot.more;
    entries = second.boot.entries ∙ (ap (λ (x : List Entry). x ++ second.boot.more) first.boot.entries ∙ append_assoc a.boot.entries first.boot.more second.boot.more);
  };
  more = first.more ++ second.more;
  since = second.since ∙ (ap (λ (x : List Event). x ++ second.more) first.since ∙ append_assoc a.since first.more second.more);
}

-- a run begins
pub runs_begin : (n : ℕ) (old : ContainerValue) (sessions : SessionsState) (seats : SeatsState) (store : Option LanesState) (text : List ℕ) → text ≡ [] → HasSoundStore store → AllGoOn old seats → old.boot.start.deployment ≡ site_parts → Runs n old sessions seats old sessions seats text store
runs_begin n old sessions seats store text empty sound goes site = record {
  run = subst (λ (x : List ℕ). HasRunTo n old sessions seats old sessions seats x) (sym empty) (run_begins n old sessions seats);
  sound = sound;
  goes = goes;
  grown = grown_none old;
  count = omega (arith);
  site = site;
}

-- a run goes on by one more step
pub runs_on : (n : ℕ) (old : ContainerValue) (sessions : SessionsState) (seats : SeatsState) (mid : ContainerValue) (mid_sessions : SessionsState) (mid_seats : SeatsState) (text : List ℕ) (store : Option LanesState) (new : ContainerValue) (new_sessions : SessionsState) (new_seats : SeatsState) (new_text : List ℕ) (new_store : Option LanesState) → Runs n old sessions seats mid mid_sessions mid_seats text store → rests (seat_at mid_seats.seats n) ≡ false → RunsOnce n mid mid_sessions mid_seats text new new_sessions new_seats new_text → HasSoundStore new_store → AllGoOn new new_seats → HasGrownBy mid new → mid.faults ≤ new.faults → Runs n old sessions seats new new_sessions new_seats new_text new_store
runs_on n old sessions seats mid mid_sessions mid_seats text store new new_sessions new_seats new_text new_store runs going once sound goes grown count = record {
  run = run_goes_on n old sessions seats mid mid_sessions mid_seats text runs.run new new_sessions new_seats new_text going once;
  sound = sound;
  goes = goes;
  grown = grown_on old mid new runs.grown grown;
  count = omega (arith, runs.count, count);
  site = ap (λ (s : Start). s.deployment) grown.boot.start ∙ runs.site;
}

-- what is lent and put back as it was is the same
pub put_is : (s : SessionsState) (l : LentSessionsState) (store : Option LanesState) (serial : ℕ) → l ≡ lent_out s → store ≡ s.store → serial ≡ s.serial → put_back l store serial ≡ s
put_is s l store serial lent stores serials =
    ap (λ (x : LentSessionsState). put_back x store serial) lent
    ∙ (ap (λ (x : Option LanesState). put_back (lent_out s) x serial) stores
    ∙ ap (λ (x : ℕ). put_back (lent_out s) s.store x) serials)

beyond_by : (b : Bool) (answer : Answer SiteState) → b ≡ true → refused_if b answer ≡ Refused
beyond_by true answer is = refl
beyond_by false answer is = absurd (cc)

no_run : (a b : Bool) → (a ≡ true → (not a && b) ≡ false) × (b ≡ false → (not a && b) ≡ false)
no_run true b = (λ e. refl, λ e. refl)
no_run false true = (λ e. absurd (cc), λ e. absurd (cc))
no_run false false = (λ e. refl, λ e. refl)

bare_by : (b : Bool) → refused_if b (let x : Answer SiteState = Refused in x) ≡ Refused
bare_by true = refl
bare_by false = refl

-- a line by which no connection can go is refused: where none has its number
pub beyond_going : (n : ℕ) (old : ContainerValue) (sessions : SessionsState) (seats : SeatsState) (to_rest : Bool) → is_beyond n ≡ true → HasDone (going to_rest n) old sessions seats Refused old
unfolding step_line
beyond_going n old sessions seats to_rest beyond =
    let s : SiteState = site_in old sessions seats in
    going_refused n old sessions seats to_rest
    (beyond_by (is_beyond n) (or_refused sessions.store (λ (store : LanesState). step_over s n true store)) beyond)
    ((no_run (is_beyond n) (is_some sessions.store && is_some (seat_at seats.seats n))).0 beyond)

-- and where there are no bricks
pub bare_going : (n : ℕ) (old : ContainerValue) (sessions : SessionsState) (seats : SeatsState) (to_rest : Bool) → sessions.store ≡ None → HasDone (going to_rest n) old sessions seats Refused old
unfolding step_line
bare_going n old sessions seats to_rest bare =
    let s : SiteState = site_in old sessions seats in
    going_refused n old sessions seats to_rest
    (ap (λ (o : Option LanesState). refused_if (is_beyond n) (or_refused o (λ (store : LanesState). step_over s n true store))) bare ∙ bare_by (is_beyond n))
    ((no_run (is_beyond n) (is_some sessions.store && is_some (seat_at seats.seats n))).1 (ap (λ (o : Option LanesState). is_some o && is_some (seat_at seats.seats n)) bare))

-- a line that makes no step comes to this, and hands nothing
pub still_done : (line : SeatLine) (c : ContainerValue) (sessions : SessionsState) (seats : SeatsState) (answer : Answer SiteState) → makes_steps line ≡ false → Some answer ≡ seat_line (site_in c sessions seats) line [] → HasDone line c sessions seats answer c
still_done (lines.Conn n) c sessions seats answer still is = record { replies = []; answers = is; handed = handed_none c; heard = All-nil StepHearsSpelled; made = All-nil WasMade }
still_done (lines.Bytes n bytes) c sessions seats answer still is = record { replies = []; answers = is; handed = handed_none c; heard = All-nil StepHearsSpelled; made = All-nil WasMade }
still_done (lines.End n) c sessions seats answer still is = record { replies = []; answers = is; handed = handed_none c; heard = All-nil StepHearsSpelled; made = All-nil WasMade }
still_done (lines.Step n) c sessions seats answer still is = absurd (cc)
still_done (lines.Run n) c sessions seats answer still is = absurd (cc)

-- bricks to which connections gave back what they held are sound
pub given_sound : ((seat : Seat) (st : LanesState) → HasSoundStore (Some st) → HasSoundStore (Some (seat_gone seat st).store)) → (seats : List (Option Seat)) (st : LanesState) → HasSoundStore (Some st) → HasSoundStore (Some (given_back seats st))
given_sound gone [] st sound = sound
given_sound gone (None ∷ seats) st sound = given_sound gone seats st sound
given_sound gone (Some seat ∷ seats) st sound = given_sound gone seats (seat_gone seat st).store (gone seat st sound)

-- a run can begin over bricks where the connection is there, and no other can
pub can_begin : (n : ℕ) (old : ContainerValue) (lent : LentSessionsState) (lanes : LanesState) (serial : ℕ) (seats : SeatsState) → n ≤ MAX_SEAT → can_run (site_in old (put_back lent (Some lanes) serial) seats) n ≡ is_some (seat_at seats.seats n)
can_begin n old lent lanes serial seats fits = ap (λ (b : Bool). not b && (true && is_some (seat_at seats.seats n))) (not_beyond n fits)

-- a run that is not at its end can go on
pub can_go : (n : ℕ) (mid : ContainerValue) (lent : LentSessionsState) (lanes : LanesState) (serial : ℕ) (seats : SeatsState) → n ≤ MAX_SEAT → rests (seat_at seats.seats n) ≡ false → can_run (site_in mid (put_back lent (Some lanes) serial) seats) n ≡ true
can_go n mid lent lanes serial seats fits going = can_begin n mid lent lanes serial seats fits ∙ go (seat_at seats.seats n) going where
  go : (o : Option Seat) → rests o ≡ false → is_some o ≡ true
  go None e = absurd (cc)
  go (Some seat) e = refl
