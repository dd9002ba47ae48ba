use Rattle.std.proofs.Common.{rules, replicate, refl}
use Rattle.filter_table.specs.Filters.{no_filters, Replaces}
use Rattle.pef_config.specs.declared.config.Config.{Config}
use Rattle.pef_config.proofs.InitialTables.{initial_tables}
use Rattle.pef_config.proofs.config.Config.new.Goals as goal

pub returns : goal.returns
returns c =
    let initial = c.args.initial.now in
    let replaced : Replaces (no_filters 16) c.set.new.self 1 initial.filter = search rules in
    let made : Config = record {
      set_in_progress = 0;
      control = initial.control;
      actions = initial.actions;
      delay = initial.delay;
      filters = c.set.new.self;
      policies = c.new.result;
      guid = replicate 17 0;
      strings = c.new-2.result;
    } in
    initial_tables initial made refl refl refl refl replaced c.new.ensures refl c.new-2.ensures.blocks c.new-2.ensures.keys
