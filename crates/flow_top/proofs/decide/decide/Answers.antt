use Rattle.std.proofs.Common.{sym, refl}
use Rattle.flow_words.specs.Asked.{request_of}
use Rattle.flow_top.specs.Sources.{source_of}
use Rattle.flow_top.proofs.Deciding.{without_text, text_at, run_at, world_at, had, stopped, run_by, without_world, no_run, ran, may_run, told_for, is_run_for}
use Rattle.flow_top.proofs.decide.decide.Goals as goal

pub returns-in-Err-clause-decided : goal.returns-in-Err-clause-decided
returns-in-Err-clause-decided g c = without_text (request_of c.args.asked.now) _ _ c.in-Err.told (text_at c.first_source.ensures c.in-Err.ensures.read)

pub returns-in-Err-judge-clause-decided : goal.returns-in-Err-judge-clause-decided
returns-in-Err-judge-clause-decided g c =
    stopped (request_of c.args.asked.now) _ _ c.in-Ok.text.items c.in-Err-judge.told (had (text_at c.first_source.ensures c.in-Ok.ensures.read))
    (run_at c.deref.ensures.value c.in-Err-judge.ensures.runs)

pub returns-in-Err-read_text-clause-decided : goal.returns-in-Err-read_text-clause-decided
returns-in-Err-read_text-clause-decided g c =
    without_world (request_of c.args.asked.now) _ _ _ c.in-Ok.text.items _ _ (source_of c.in-Some.source) (had (text_at c.first_source.ensures c.in-Ok.ensures.read))
    (run_by (run_at c.deref.ensures.value c.in-Ok-judge.ensures.runs)) (sym c.in-Some.ensures) c.read_text.ensures.content c.in-Err-read_text.told c.in-Err-read_text.ensures.read

pub returns-in-Ok-world_of-clause-may_tell : goal.returns-in-Ok-world_of-clause-may_tell
returns-in-Ok-world_of-clause-may_tell g c =
    may_run (request_of c.args.asked.now) c.in-Ok.text.items _ _ _ _ c.run_for.result refl refl refl c.run_for.ensures (run_by (run_at c.deref.ensures.value c.in-Ok-judge.ensures.runs))
    c.in-Ok-judge.ensures.waits c.in-Ok-world_of.ensures.in_range

pub returns-in-Ok-world_of-clause-decided : goal.returns-in-Ok-world_of-clause-decided
returns-in-Ok-world_of-clause-decided g c =
    ran (request_of c.args.asked.now) _ _ _ c.in-Ok.text.items _ _ (source_of c.in-Some.source) (had (text_at c.first_source.ensures c.in-Ok.ensures.read))
    (run_by (run_at c.deref.ensures.value c.in-Ok-judge.ensures.runs)) (sym c.in-Some.ensures) c.read_text.ensures.content c.in-Ok-read_text.text.items
    (had c.in-Ok-read_text.ensures.read) _ c.run_for.result refl refl c.run_for.ensures (world_at c.deref-2.ensures.value c.in-Ok-world_of.ensures.answered) c.tells_frames.ensures

pub returns-clause-decided : goal.returns-clause-decided
returns-clause-decided g c =
    no_run (request_of c.args.asked.now) _ _ _ c.in-Ok.text.items _ _ (source_of c.in-Some.source) (had (text_at c.first_source.ensures c.in-Ok.ensures.read))
    (run_by (run_at c.deref.ensures.value c.in-Ok-judge.ensures.runs)) (sym c.in-Some.ensures) c.read_text.ensures.content c.in-Ok-read_text.text.items
    (had c.in-Ok-read_text.ensures.read) c.in-Err-world_of.told (world_at c.deref-2.ensures.value c.in-Err-world_of.ensures.answered)

pub returns-in-Err-clause-fits : goal.returns-in-Err-clause-fits
returns-in-Err-clause-fits g c = told_for (request_of c.args.asked.now) c.in-Err.told

pub returns-in-Err-judge-clause-fits : goal.returns-in-Err-judge-clause-fits
returns-in-Err-judge-clause-fits g c = told_for (request_of c.args.asked.now) c.in-Err-judge.told

pub returns-in-Err-read_text-clause-fits : goal.returns-in-Err-read_text-clause-fits
returns-in-Err-read_text-clause-fits g c = told_for (request_of c.args.asked.now) c.in-Err-read_text.told

pub returns-in-Ok-world_of-clause-fits : goal.returns-in-Ok-world_of-clause-fits
returns-in-Ok-world_of-clause-fits g c = is_run_for (request_of c.args.asked.now) _ c.run_for.result c.run_for.ensures

pub returns-clause-fits : goal.returns-clause-fits
returns-clause-fits g c = told_for (request_of c.args.asked.now) c.in-Err-world_of.told
