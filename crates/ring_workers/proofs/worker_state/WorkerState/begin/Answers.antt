use Rattle.ring_workers.proofs.worker_state.WorkerState.begin.Goals as goal

pub returns : goal.returns
returns g c = record {
  steps = c.begin.ensures.steps;
  grows = c.dropped_after-self.ensures.grows;
  begun = (c.in_ok-fate.fate, c.in_ok-fate.ensures.fate, c.dropped_after-self.ensures.counted);
  uncounted = tt;
}
