use Rattle.std.proofs.Common.{[], ◌∷◌, ◌∙◌, Result, Ok, Err, OnOk}
use Rattle.board_core.specs.Board.{Holds, Only}
use Rattle.pef_journal.specs.Image.{Stands}
use Rattle.pef_journal.proofs.Formats.{after_mark, formatted, stands_empty}
use Rattle.pef_journal.proofs.formatting.format.Goals as goal

on_ok_map : {T E : Type 0} (r : Result T E) (P Q R : Type 0) → (P → Q → R) → OnOk r P → OnOk r Q → OnOk r R
on_ok_map (Ok x) P Q R both p q = both p q
on_ok_map (Err e) P Q R both p q = tt

pub returns-clause-any_moment : goal.returns-clause-any_moment
returns-clause-any_moment g c = λ tells.
    let view = g.B.Board.view in
    let w = c.in_ok-write_synced.ensures in
    let tells_b = c.write_synced-2.ensures.run.tells tells in
    let tells_a = w.run.tells tells_b in
    let cleared = c.in_ok-clear_mark.ensures.cleared tells_a in
    after_mark c.args.kind c.args.settings.now (view c.args.board.now) (view c.clear_mark.new.board) c.requires.settings (c.clear_mark.ensures.any_moment tells_a) c.clear_mark.ensures.run tells_a cleared.0 cleared.1
    (view c.write_synced.new.board) c.as_slice.result.now (w.any_moment tells_b) (c.as_slice.ensures ∙ c.body_of-body.ensures) w.run tells_b (w.written tells_b) (w.lasting tells_b) (view c.write_synced-2.new.board)
    (c.write_synced-2.ensures.any_moment tells)

pub returns-clause-done : goal.returns-clause-done
returns-clause-done g c = λ tells.
    let view = g.B.Board.view in
    let kind = c.args.kind in
    let Z = c.args.settings.now in
    let b = view c.write_synced.new.board in
    let d = view c.write_synced-2.new.board in
    let w = c.in_ok-write_synced.ensures in
    let tells_b = c.write_synced-2.ensures.run.tells tells in
    let tells_a = w.run.tells tells_b in
    let cleared = c.in_ok-clear_mark.ensures.cleared tells_a in
    on_ok_map c.write_synced-2.result (Holds b.octets 0 (165 ∷ []) d.octets) (Only d.octets d.images) (Stands kind Z [] d.octets × Only d.octets d.images)
    (λ holds only. (
      stands_empty kind Z (view c.args.board.now) (view c.clear_mark.new.board) c.requires.settings (c.clear_mark.ensures.any_moment tells_a) c.clear_mark.ensures.run tells_a cleared.0 cleared.1 d.octets
          (formatted kind Z (view c.args.board.now) (view c.clear_mark.new.board) c.requires.settings (c.clear_mark.ensures.any_moment tells_a) c.clear_mark.ensures.run tells_a cleared.0 cleared.1
          b c.as_slice.result.now (w.any_moment tells_b) (c.as_slice.ensures ∙ c.body_of-body.ensures) w.run tells_b (w.written tells_b) (w.lasting tells_b) d holds),
      only,
    ))
    (c.write_synced-2.ensures.written tells) (c.write_synced-2.ensures.lasting tells)
