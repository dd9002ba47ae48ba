-- What is said of a state file that is only read: that it tells nothing of its content, and its counts of failures.
use Rattle.board_core.specs.Board.{BoardView, IsSound}
use Rattle.real_devices.specs.Silent.{silent_view, silent_sound}
use Rattle.pef_cli.specs.declared.state_reader.StateReader.{StateReader}

abbrev pub reader_view : StateReader → BoardView
reader_view reader = silent_view reader.faults reader.refused

abbrev pub reader_sound : (reader : StateReader) → IsSound (reader_view reader)
reader_sound reader = silent_sound reader.faults reader.refused reader.faults_counted reader.refused_counted
