use Rattle.std.proofs.Common.{subst, sym}
use Rattle.canon_recording.proofs.Staging.{asks_leads, before_leads, runs_leads}
use Rattle.canon_recording.specs.Stages.{LeadsTo}
use Rattle.canon_recording.specs.declared.runs.Stage.TheVariants as stage
use Rattle.canon_recording.proofs.runs.stage_after.Goals as goal

pub returns-in-Before : goal.returns-in-Before
returns-in-Before c =
    let a = c.args in
    record {
      leads = subst (λ s. LeadsTo a.func a.post s a.returned.now a.event.now c.after_before.result) (sym c.in-Before.is)
          (subst (LeadsTo a.func a.post stage.Before a.returned.now a.event.now) (sym c.after_before.ensures) (before_leads a.func a.post a.returned.now a.event.now));
    }

pub returns-in-Runs : goal.returns-in-Runs
returns-in-Runs c =
    let a = c.args in
    record {
      leads = subst (λ s. LeadsTo a.func a.post s a.returned.now a.event.now c.after_runs.result) (sym c.in-Runs.is)
          (subst (LeadsTo a.func a.post stage.Runs a.returned.now a.event.now) (sym c.after_runs.ensures) (runs_leads a.post a.func a.returned.now a.event.now));
    }

pub returns-in-Asks : goal.returns-in-Asks
returns-in-Asks c =
    let a = c.args in
    record {
      leads = subst (λ s. LeadsTo a.func a.post s a.returned.now a.event.now c.after_asks.result) (sym c.in-Asks.is)
          (subst (LeadsTo a.func a.post stage.Asks a.returned.now a.event.now) (sym c.after_asks.ensures) (asks_leads a.post a.func a.returned.now a.event.now));
    }

pub returns-in-Returned : goal.returns-in-Returned
returns-in-Returned c = record { leads = subst (λ s. LeadsTo c.args.func c.args.post s c.args.returned.now c.args.event.now c.after_returned.result) (sym c.in-Returned.is) c.after_returned.ensures.leads }
