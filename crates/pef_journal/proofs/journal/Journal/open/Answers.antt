use Rattle.std.proofs.Common.{◌≡◌, inr, ◌+◌, ◌<◌, IsTrue, sym, ◌∙◌, ap, arith, rules, take, drop, length}
use Rattle.std.proofs.lemmas.List.{append-nil}
use Rattle.pef_journal.specs.Image.{HasHeader}
use Rattle.pef_journal.specs.Journal.{LeavesAsRead}
use Rattle.pef_journal.proofs.Moments.{syncs_reads}
use Rattle.pef_journal.proofs.Heads.{head, has_header, opens_at}
use Rattle.pef_journal.proofs.journal.Journal.open.Given
use Rattle.pef_journal.proofs.journal.Journal.open.Goals as goal

-- nothing was written
octets : (g : Given.Over) (c : goal.In_ok-read_at-2 g) → IsTrue (g.B.Board.view c.read_at-2.new.self).tells → (g.B.Board.view c.read_at-2.new.self).octets ≡ (g.B.Board.view c.args.board.now).octets
octets g c = λ tells.
    let tells_x = c.read_at-2.ensures.same.call.run.tells tells in
    c.read_at-2.ensures.same.octets tells ∙ c.read_at.ensures.same.octets tells_x ∙ c.in_ok-file_length.ensures.octets (c.read_at.ensures.same.call.run.tells tells_x)

read : goal.returns-clause-read
read g c = λ tells.
    let v = g.B.Board.view c.args.board.now in
    let w = g.B.Board.view c.synced_length.new.board in
    let x = g.B.Board.view c.read_at.new.self in
    let y = g.B.Board.view c.read_at-2.new.self in
    let Y = c.read_at-2.new.into in
    let tells_x = c.read_at-2.ensures.same.call.run.tells tells in
    let tells_w = c.read_at.ensures.same.call.run.tells tells_x in
    let octets_y = c.read_at-2.ensures.same.octets tells in
    let octets_x = c.read_at.ensures.same.octets tells_x in
    let octets_w = c.in_ok-file_length.ensures.octets tells_w in
    let file = y.octets in
    let same : length Y ≡ length c.args.settings.now = c.read_at-2.auto.into in
    let head_is : c.read_at.new.into ≡ c.head_of.result = search (rules, c.if-ne.ensures) in
    let read_is : c.read_at.new.into ≡ take 4 w.octets = c.in_ok-read_at.ensures.octets tells_x ∙ ap (λ k. take k w.octets) c.read_at.auto.into in
    let heads : take 4 file ≡ head c.args.kind.number (length Y) = ap (take 4) (octets_y ∙ octets_x) ∙ sym read_is ∙ head_is ∙ c.head_of.ensures ∙ ap (head c.args.kind.number) (sym same) in
    let settings : Y ≡ take (length Y) (drop 4 file) = c.in_ok-read_at-2.ensures.octets tells ∙ ap (λ l. take (length Y) (drop 4 l)) (sym octets_y) in
    let size : c.in_ok-file_length.file_length ≡ length file = c.in_ok-file_length.ensures.length tells_w ∙ ap length (sym (octets_y ∙ octets_x ∙ octets_w)) in
    let long : 4 + length Y < length file = omega (arith, c.if-file_length-first_gate.false, size, same) in
    let has : HasHeader c.args.kind Y (drop (4 + length Y) file) file = has_header c.args.kind Y file (c.requires.0, same ∙ c.requires.1) heads settings long in
    record {
      rest = drop (4 + length Y) file;
      file = has;
      behind = has.2;
      payloads = tt;
      place = omega (arith, same, ap length (append-nil Y));
      lasting = λ image now.
          c.in_ok-file_length.ensures.lasting tells_w image ((c.read_at.ensures.same.images tells_x image).0 ((c.read_at-2.ensures.same.images tells image).0 now)) ∙ sym (octets_y ∙ octets_x);
    }

pub returns-clause-read : goal.returns-clause-read
returns-clause-read = read

pub returns-clause-ok : goal.returns-clause-ok
returns-clause-ok g c = λ tells.
    let v = g.B.Board.view c.args.board.now in
    let w = g.B.Board.view c.synced_length.new.board in
    let x = g.B.Board.view c.read_at.new.self in
    let y = g.B.Board.view c.read_at-2.new.self in
    let tells_x = c.read_at-2.ensures.same.call.run.tells tells in
    let tells_w = c.read_at.ensures.same.call.run.tells tells_x in
    syncs_reads v x y (LeavesAsRead v) (g.met.B.Board.sound c.read_at.new.self) (g.met.B.Board.sound c.read_at-2.new.self) c.read_at-2.ensures.same tells
    (syncs_reads v w x (LeavesAsRead v) (g.met.B.Board.sound c.synced_length.new.board) (g.met.B.Board.sound c.read_at.new.self) c.read_at.ensures.same tells_x (c.in_ok-file_length.ensures.ok tells_w))

pub returns-clause-synced : goal.returns-clause-synced
returns-clause-synced g c = λ tells. inr (returns-clause-ok g c tells)

pub returns-clause-opened : goal.returns-clause-opened
returns-clause-opened g c = λ tells Z entries stands.
    let y = g.B.Board.view c.read_at-2.new.self in
    opens_at c.args.kind c.read_at-2.new.into y _ (g.B.Board.view c.args.board.now).octets (read g c tells) (octets g c tells) Z entries stands

pub returns-clause-is_unformatted : goal.returns-clause-is_unformatted
returns-clause-is_unformatted g c = λ tells none.
    let r = read g c tells in
    absurd (none (c.read_at-2.new.into, r.rest, (r.file.0, sym (octets g c tells) ∙ r.file.1, r.file.2)))
