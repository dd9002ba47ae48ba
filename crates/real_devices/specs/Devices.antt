-- What is said of the devices: that they tell nothing of their content, and their counts of faults.
use Rattle.std.specs.Prelude.{ℕ}
use Rattle.board_core.specs.Board.{BoardView, IsSound}
use Rattle.real_devices.specs.Silent.{silent_view, silent_sound}
use Rattle.real_devices.specs.declared.file_board.FileBoard.{FileBoard}
use Rattle.real_devices.specs.declared.file_source.FileSource.{FileSource}
use Rattle.real_devices.specs.declared.std_sink.StdSink.{StdSink}
use Rattle.real_devices.specs.declared.udp_feed.UdpFeed.{UdpFeed}

abbrev pub board_view : {R : Type 0} → FileBoard R → BoardView
board_view board = silent_view board.disk.count board.issue.count

abbrev pub board_sound : {R : Type 0} → (board : FileBoard R) → IsSound (board_view board)
board_sound board = silent_sound board.disk.count board.issue.count board.disk.counted board.issue.counted

abbrev pub source_faults : FileSource → ℕ
source_faults source = source.faults.count

abbrev pub sink_faults : {W : Type 0} → StdSink W → ℕ
sink_faults sink = sink.faults.count

abbrev pub feed_faults : {R : Type 0} → UdpFeed R → ℕ
feed_faults feed = feed.faults.count
