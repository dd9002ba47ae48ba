-- A feed in memory, as a feed.
use Rattle.std.specs.Prelude.{take, drop}
use Rattle.board_core.specs.Feed.{Arrivals}
use Rattle.board_core.specs.declared.memory_feed.MemFeed.{MemFeed}

-- what is still to arrive, what was given, and whether the end was told
abbrev pub arrivals_in : MemFeed → Arrivals
arrivals_in feed = record { coming = drop feed.place feed.arrivals.items; given = take feed.place feed.arrivals.items; ended = feed.ended }
