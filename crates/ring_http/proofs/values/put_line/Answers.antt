-- What was written reads back, with an LF after it.
use Rattle.std.proofs.lemmas.Grind.{common_steps}
use Rattle.std.proofs.Common.{arith}
use Rattle.std.proofs.lemmas.Result.{on_ok_weaker}
use Rattle.serde_json.specs.View.{view}
use Rattle.ring_http.proofs.Lines.{line_reads}
use Rattle.ring_http.proofs.values.put_line.Goals as goal

pub returns-clause-reads : goal.returns-clause-reads
returns-clause-reads c =
    let written = c.in_ok-text.ensures in
    let text = written.text c.requires.plain in
    let back = written.reads_back c.requires.shallow in
    let value = view c.args.value.now in
    let reads = line_reads c.in_ok-text.text.items value text written.compact back in
    on_ok_weaker c.put-2.result (λ put. reads) c.put-2.ensures

pub returns-clause-text : goal.returns-clause-text
returns-clause-text c = grind (arith, common_steps)
