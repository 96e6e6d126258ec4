use Rattle.std.proofs.Common.{inl, option_map}
use Rattle.cad_job.proofs.program.run_words.Goals as goal

pub returns-in-Ok : goal.returns-in-Ok
returns-in-Ok g c = inl (c.in-Ok.args.depth, c.in-Ok.args.stop, option_map (λ f. f.now) c.in-Ok.args.file, c.in-Ok.ensures.ok, c.run_args.ensures)
