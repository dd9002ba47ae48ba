use Rattle.pef_core.proofs.report.ControllerScripted.script.Goals as goal

pub returns : goal.returns
returns c = λ Z H lawful shows. shows.script_is
