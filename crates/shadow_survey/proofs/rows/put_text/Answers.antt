use Rattle.std.proofs.Common.{◌∙◌, sym}
use Rattle.shadow_survey.proofs.Plainness.{plain_shown, shown_bytes}
use Rattle.shadow_survey.proofs.rows.put_text.Goals as goal

pub returns-then-all_plain : goal.returns-then-all_plain
returns-then-all_plain g c = record {
  puts = rw (plain_shown c.args.format c.args.text.now (sym c.requires.plain ∙ c.if-all_plain.true)) c.put.ensures.puts;
}

pub returns-else-all_plain : goal.returns-else-all_plain
returns-else-all_plain g c = record {
  puts = rw (shown_bytes c.args.format c.args.text.now) c.put_shown.ensures.puts;
}
