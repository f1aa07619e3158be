-- What holds of a boot between two lines, after a part of a line.
use Rattle.std.proofs.Common.{◌∙◌, ap, Bool, List}
use Rattle.boot_core.specs.declared.boot.Start.{Start}
use Rattle.container_core.specs.Container.{ContainerValue, HasGrownBy}
use Rattle.line_steps.specs.Callers.{AllFit}
use Rattle.line_steps.specs.declared.callers.Caller.{Caller}
use Rattle.line_steps.proofs.Fitting.{fit_meanwhile}
use Rattle.seat_lines.specs.Site.{AllGoOn, SeatsState}
use Rattle.scenario_engine.specs.Going.{RunsOn}

-- connections stay
abbrev pub Stays : SeatsState → Type 0
Stays seats = (old new : ContainerValue) → HasGrownBy old new → AllGoOn old seats → AllGoOn new seats

-- other callers in the same container
pub runs_with : (k : ContainerValue) (callers after : List Caller) (seats : SeatsState) (site : Bool) → AllFit k.boot after → RunsOn k callers seats site → RunsOn k after seats site
runs_with k callers after seats site fits runs = record { fits = fits; goes = runs.goes; of_site = runs.of_site }

-- a container that has grown, with these callers
pub runs_grown : (k m : ContainerValue) (callers after : List Caller) (seats : SeatsState) (site : Bool) → HasGrownBy k m → Stays seats → AllFit m.boot after → RunsOn k callers seats site → RunsOn m after seats site
runs_grown k m callers after seats site grown stays fits runs = record {
  fits = fits;
  goes = stays k m grown runs.goes;
  of_site = λ is. ap (λ (s : Start). s.deployment) grown.boot.start ∙ runs.of_site is;
}

-- the same callers
pub runs_meanwhile : (k m : ContainerValue) (callers : List Caller) (seats : SeatsState) (site : Bool) → HasGrownBy k m → Stays seats → RunsOn k callers seats site → RunsOn m callers seats site
runs_meanwhile k m callers seats site grown stays runs =
    runs_grown k m callers callers seats site grown stays (fit_meanwhile k.boot m.boot callers grown.boot runs.fits) runs

-- other connections, which go on
pub runs_after : (k m : ContainerValue) (callers : List Caller) (seats left : SeatsState) (site : Bool) → HasGrownBy k m → AllGoOn m left → RunsOn k callers seats site → RunsOn m callers left site
runs_after k m callers seats left site grown goes runs = record {
  fits = fit_meanwhile k.boot m.boot callers grown.boot runs.fits;
  goes = goes;
  of_site = λ is. ap (λ (s : Start). s.deployment) grown.boot.start ∙ runs.of_site is;
}
