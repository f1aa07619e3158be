use Rattle.std.proofs.Common.{List, ◌∷◌, subst}
use Rattle.scenario_text.specs.declared.session_line.SessionLine.TheVariants as lines
use Rattle.session_steps.specs.Promise.{SessionTurn, Does, Lead, FetchedWrite}
use Rattle.scenario_text.specs.Setup.{SetupState}
use Rattle.session_steps.specs.Setup.{set_up}
use Rattle.session_steps.specs.Standing.{FetchStands}
use Rattle.session_steps.proofs.Leading.{lead_cut}
use Rattle.session_steps.proofs.laws.sessions_stand.Goals as goal

-- what stands of each fetch of what was written
stands : (c : goal.After-fetches_lose_only_where_all_have) (setup : SetupState) (story : FetchedWrite setup 0) → FetchStands story
stands c setup story = record {
  right = c.fetches_answer_what_was_written.ensures.right setup 0 story;
  version = c.fetches_answer_what_was_written.ensures.version setup 0 story;
  lease = c.fetches_answer_what_was_written.ensures.lease setup 0 story;
  found = c.fetches_read_back.ensures.found setup 0 story;
  only = c.fetches_read_back.ensures.only setup 0 story;
  expired = c.fetches_read_back.ensures.expired setup 0 story;
  lost = c.fetches_lose_only_where_all_have.ensures.lost setup 0 story;
  crashed_or_unheard = c.fetches_lose_only_where_all_have.ensures.crashed_or_unheard setup 0 story;
}

pub returns : goal.returns
returns c = λ setup turns end lead. record {
  lead = lead;
  worlds = λ st is. c.sessions_are_worlds.ensures setup 0 turns end st lead is;
  fetches = λ before after key text parts.
      let P : List SessionTurn → Type 0 = λ xs. Lead (set_up setup 0) xs end in
      let cut = lead_cut before (Does (lines.Fetch key) text ∷ after) (set_up setup 0) end (subst P parts lead) in
      let of_write = c.fetches_answer_what_was_written.ensures.each setup 0 before cut.0 cut.2.0 key text cut.1 cut.2.1 in
      record { at_fetch = cut.0; of_write = of_write; stands = stands c setup of_write.story };
}
