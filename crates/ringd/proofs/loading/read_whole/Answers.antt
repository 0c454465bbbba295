use Rattle.std.proofs.Common.{◌<◌, length, rules}
use Rattle.ringd.proofs.Wholes.{whole_read}
use Rattle.ringd.proofs.loading.read_whole.Goals as goal

pub returns-in-Ok-clause-whole : goal.returns-in-Ok-clause-whole
returns-in-Ok-clause-whole g c =
    let short : length c.read_to_end.new.buf.items < 65537 = search rules in
    whole_read (g.R.Read.remaining c.args.reader) 65537 c.read_to_end.new.buf.items short (search rules)
