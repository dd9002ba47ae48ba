use Rattle.std.proofs.Common.{◌≡◌, replicate, length, refl, ◌∙◌, ap, arith, rules}
use Rattle.board_core.specs.File.{put_at}
use Rattle.board_core.proofs.LeavingSteps.{after_write, after_spoilt, after_sync, after_step}
use Rattle.board_core.proofs.leaving.Leaving.go_on.Goals as goal

pub returns-in_ok-put-in-Wrote-2 : goal.returns-in_ok-put-in-Wrote-2
returns-in_ok-put-in-Wrote-2 c = λ content earlier calls was.
    let old = c.args.self.now in
    let octets = c.in-Wrote.octets in
    let count : c.len.result ≡ length octets.items = omega (arith, c.len.ensures, octets.ok.0) in
    let row : c.deref.result.now ≡ replicate (length octets.items) c.args.torn = c.deref.ensures.value ∙ c.in_ok-row-in-Wrote.ensures ∙ ap (λ n. replicate n c.args.torn) count in
    let file : c.put-in-Wrote.new.file.items ≡ put_at c.in-Wrote.place octets.items old.file.items = c.in_ok-put-in-Wrote-2.ensures.put ∙ ap (λ l. put_at c.in-Wrote.place l old.file.items) c.deref-in-Wrote.ensures.value in
    let image : c.put.new.file.items ≡ put_at c.in-Wrote.place (replicate (length octets.items) c.args.torn) old.image.items = c.in_ok-put-in-Wrote.ensures.put ∙ ap (λ l. put_at c.in-Wrote.place l old.image.items) row in
    after_write c.args.torn content earlier calls c.args.call.now old _ was c.in-Wrote.place octets c.in-Wrote.is c.requires.placed file image refl

pub returns-in_ok-put-in-Spoiled : goal.returns-in_ok-put-in-Spoiled
returns-in_ok-put-in-Spoiled c = λ content earlier calls was.
    let old = c.args.self.now in
    let row : c.deref-in-Spoiled.result.now ≡ replicate c.in-Spoiled.count c.args.torn = c.deref-in-Spoiled.ensures.value ∙ c.in_ok-row-in-Spoiled.ensures in
    let image : c.put-in-Spoiled.new.file.items ≡ put_at c.in-Spoiled.place (replicate c.in-Spoiled.count c.args.torn) old.image.items = c.in_ok-put-in-Spoiled.ensures.put ∙ ap (λ l. put_at c.in-Spoiled.place l old.image.items) row in
    after_spoilt c.args.torn content earlier calls c.args.call.now old _ was c.in-Spoiled.place c.in-Spoiled.count c.in-Spoiled.is c.requires.placed refl image refl

pub returns-in_ok-self-in-Synced : goal.returns-in_ok-self-in-Synced
returns-in_ok-self-in-Synced c = λ content earlier calls was.
    after_sync c.args.torn content earlier calls c.args.call.now c.args.self.now _ was c.in-Synced.is refl (search rules) refl

pub returns-in-Issued : goal.returns-in-Issued
returns-in-Issued c = λ content earlier calls was.
    after_step c.args.torn content earlier calls c.args.call.now c.args.self.now _ was c.in-Issued.is refl refl refl
