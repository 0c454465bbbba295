-- Each number of the configuration is that of its key, and the table has no other key.
use Rattle.std.proofs.Common.{arith}
use Rattle.ring_config.proofs.Counts.{count_view}
use Rattle.ring_config.proofs.reading.config_of.Goals as goal

pub returns-clause-some : goal.returns-clause-some
returns-clause-some c = record {
  workers = c.in-Some.ensures.some;
  inbox = c.in-Some-number_at.ensures.some;
  port = c.in-Some-number_at-2.ensures.some;
  only = omega (arith, count_view c.args.table.now.entries, c.len.ensures.len, c.if-len-ne3.false);
}

-- A configuration would have a port, and the table has none.
pub returns-in_default-number_at-2-clause-none : goal.returns-in_default-number_at-2-clause-none
returns-in_default-number_at-2-clause-none c = λ config is. c.in_default-number_at-2.ensures.none config.port is.port
