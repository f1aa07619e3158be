use Rattle.std.proofs.Common.{◌≡◌, List, Option, Some, subst}
use Rattle.outside.specs.Keeper.{KeeperTold}
use Rattle.scenario_engine.specs.KeeperCalls.{KeeperCall, TellsCalls}
use Rattle.scenario_engine.specs.Transcript.{calls_from, first}
use Rattle.drive_engine.proofs.laws.turns_stand.Goals as goal

-- a keeper that tells these before and after, tells so
tells-both : (calls : List KeeperCall) (old new : Option KeeperTold) (t u : KeeperTold) → TellsCalls calls old new → old ≡ Some t → new ≡ Some u → TellsCalls calls (Some t) (Some u)
tells-both calls old new t u tells was is =
    subst (λ (o : Option KeeperTold). TellsCalls calls (Some t) o) is (subst (λ (o : Option KeeperTold). TellsCalls calls o new) was tells)

pub returns : goal.returns
returns c = λ turns old new done. record {
  calls = done.made.told;
  told = c.keepers_tell.ensures turns old.told new.told done.made.told;
  faults = done.made.counted;
  sound = c.boots_are_sound.ensures.boots turns;
  unrebooted = c.no_turns_commit_after_a_reboot.ensures turns;
  serial = c.no_turns_break_the_order.ensures turns;
  own = c.commits_are_of_their_boot.ensures turns;
  meant = c.journals_are_meant.ensures turns;
  sessions = c.scenarios_have_sessions.ensures turns;
  spelled = done.spelled;
  browsers = λ t u was is.
      c.scenarios_have_browsers.ensures turns t u (tells-both (calls_from first turns) old.told new.told t u done.made.told was is) done.spelled;
}
