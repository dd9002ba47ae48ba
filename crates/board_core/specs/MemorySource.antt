-- A source in memory, as a source.
use Rattle.std.specs.Prelude.{ℕ, List, drop}
use Rattle.board_core.specs.declared.memory_source.MemSource.{MemSource}

-- what is left to read
abbrev pub left_in : MemSource → List ℕ
left_in source = drop source.place source.content.items
