-- Writing what is owed, part by part.
use Rattle.std.proofs.Common.{◌≡◌, ◌≢◌, ℕ, ◌<◌, ◌≤◌, Bool, true, List, [], ◌∷◌, ◌++◌, length, take, Option, Some, None, Result, Ok, Err, OnOk, OnErr, refl, sym, ◌∙◌, ap, append_assoc, arith}
use Rattle.std.proofs.lemmas.List.{append-nil, length-append, length-take-le}
use Rattle.board_core.specs.declared.sink.SinkFailed.{SinkFailed}
use Rattle.board_core.specs.declared.source.SourceFailed.{SourceFailed}
use Rattle.board_core.specs.Source.{Appends, Takes}
use Rattle.pef_words.specs.declared.program.Stop.{Stop}
use Rattle.pef_words.specs.Going.{passed, owed_by, ended_line, Paid, PaidPart}
use Rattle.pef_words.specs.Worded.{worded_from}
use Rattle.pef_words.proofs.Texts.{owed_end, owed_full}

pub none_paid : (same : Option (List ℕ)) (old new : List ℕ) → old ≡ new → Paid same same old new
none_paid same old new is = λ text written. ([], written ∙ ap Some (sym (append-nil text)), is)

pub paid_then : (a b c : Option (List ℕ)) (x y z : List ℕ) → Paid a b x y → Paid b c y z → Paid a c x z
paid_then a b c x y z first second = λ text written.
    let p = first text written in let q = second (text ++ p.0) p.1 in
    (p.0 ++ q.0, q.1 ∙ ap Some (append_assoc text p.0 q.0), p.2 ∙ ap (λ l. p.0 ++ l) q.2 ∙ sym (append_assoc p.0 q.0 z))

pub part_then : (a b c : Option (List ℕ)) (x y : List ℕ) → Paid a b x y → PaidPart b c y → PaidPart a c x
part_then a b c x y first second = λ text written.
    let p = first text written in let q = second (text ++ p.0) p.1 in
    (p.0 ++ q.0, q.1 ∙ ap Some (append_assoc text p.0 q.0), (q.2.0, p.2 ∙ ap (λ l. p.0 ++ l) q.2.1 ∙ sym (append_assoc p.0 q.0 q.2.0)))

pub part_of_paid : (a b : Option (List ℕ)) (x y : List ℕ) → Paid a b x y → PaidPart a b x
part_of_paid a b x y paid = λ text written. let p = paid text written in (p.0, p.1, (y, p.2))

pub none_part : (same : Option (List ℕ)) (x : List ℕ) → PaidPart same same x
none_part same x = λ text written. ([], written ∙ ap Some (sym (append-nil text)), (x, refl))

some_is : (a b : List ℕ) → Some a ≡ Some b → a ≡ b
some_is a b e = cc

abbrev stopped : Stop → Result Unit Stop
stopped stop = Err stop

pub stop_is : (a b : Stop) → stopped a ≡ stopped b → a ≡ b
stop_is a b e = cc

pub paid_by_write : (line : List ℕ) (before after : Option (List ℕ)) (x y : List ℕ) → x ≡ line ++ y → Appends {E = SinkFailed} line before after (Ok tt) → Paid before after x y
paid_by_write line (Some old) (Some new) x y is wrote = λ text written. (line, ap Some (wrote ∙ ap (λ t. t ++ line) (some_is old text written)), is)
paid_by_write line (Some old) None x y is wrote = absurd wrote
paid_by_write line None (Some new) x y is wrote = absurd wrote
paid_by_write line None None x y is wrote = λ text written. absurd (cc written)

pub part_by_write : (line : List ℕ) (before after : Option (List ℕ)) (x y : List ℕ) (e : SinkFailed) → x ≡ line ++ y → Appends {E = SinkFailed} line before after (Err e) → PaidPart before after x
part_by_write line (Some old) (Some new) x y e is wrote = λ text written.
    (wrote.0, ap Some (wrote.3 ∙ ap (λ t. t ++ wrote.0) (some_is old text written)), (wrote.1 ++ y, is ∙ ap (λ l. l ++ y) (sym wrote.2) ∙ append_assoc wrote.0 wrote.1 y))
part_by_write line (Some old) None x y e is wrote = absurd wrote
part_by_write line None (Some new) x y e is wrote = absurd wrote
part_by_write line None None x y e is wrote = λ text written. absurd (cc written)

-- what was held is written where no more can be held
pub full_paid : (passes : Bool) (held line pushed text : List ℕ) (octet : ℕ) (before after : Option (List ℕ)) → octet ≢ 10 → 1199 ≤ length held → line ≡ held → pushed ≡ octet ∷ []
    → Appends {E = SinkFailed} line before after (Ok tt) → Paid before after (owed_by passes held (octet ∷ text)) (pushed ++ passed text)
full_paid passes held line pushed text octet before after other full is was wrote =
    paid_by_write line before after (owed_by passes held (octet ∷ text)) (pushed ++ passed text)
    (owed_full passes held text octet other full ∙ ap (λ l. l ++ (octet ∷ [] ++ passed text)) (sym is) ∙ ap (λ p. line ++ (p ++ passed text)) (sym was)) wrote

pub full_part : (passes : Bool) (held line text : List ℕ) (octet : ℕ) (before after : Option (List ℕ)) (e : SinkFailed) → octet ≢ 10 → 1199 ≤ length held → line ≡ held
    → Appends {E = SinkFailed} line before after (Err e) → PaidPart before after (owed_by passes held (octet ∷ text))
full_part passes held line text octet before after e other full is wrote =
    part_by_write line before after (owed_by passes held (octet ∷ text)) (owed_by true (octet ∷ []) text) e
    (owed_full passes held text octet other full ∙ ap (λ l. l ++ owed_by true (octet ∷ []) text) (sym is)) wrote

-- a line was written with its end, or a part of it
pub end_part : (passes : Bool) (held line text : List ℕ) (before after : Option (List ℕ)) (e : SinkFailed) → line ≡ ended_line passes held
    → Appends {E = SinkFailed} line before after (Err e) → PaidPart before after (owed_by passes held (10 ∷ text))
end_part passes held line text before after e is wrote =
    part_by_write line before after (owed_by passes held (10 ∷ text)) (worded_from [] text) e
    (owed_end passes held text ∙ ap (λ l. l ++ worded_from [] text) (sym is)) wrote

-- what a read took, where it took an octet or more
pub took : (left new : Option (List ℕ)) (count : ℕ) (into text : List ℕ) → left ≡ Some text → count ≢ 0 → Takes {E = SourceFailed} left new (Ok count) into
    → (rest : List ℕ) × (new ≡ Some rest) × (text ≡ take count into ++ rest) × (length rest < length text)
took (Some old) (Some new) count into text is other takes =
    let same : text ≡ take count into ++ new = sym (some_is old text is) ∙ takes.1 in
    let counted : length (take count into) ≡ count = length-take-le count into takes.0 in
    (new, refl, same, omega (arith, ap length same, length-append (take count into) new, counted, other))
took (Some old) None count into text is other takes = absurd takes
took None new count into text is other takes = absurd (cc is)

pub end_paid : (passes : Bool) (held line text : List ℕ) (before after : Option (List ℕ)) (new : List ℕ) → line ≡ ended_line passes held → new ≡ worded_from [] text
    → Appends {E = SinkFailed} line before after (Ok tt) → Paid before after (owed_by passes held (10 ∷ text)) new
end_paid passes held line text before after new is begun wrote =
    paid_by_write line before after (owed_by passes held (10 ∷ text)) new
    (owed_end passes held text ∙ ap (λ l. l ++ worded_from [] text) (sym is) ∙ ap (λ l. line ++ l) (sym begun)) wrote

-- the last line was written, or a part of it
pub last_paid : (line all : List ℕ) (before after : Option (List ℕ)) (result : Result Unit SinkFailed) → line ≡ all → Appends line before after result
    → OnOk result (Paid before after all []) × OnErr result (PaidPart before after all)
last_paid line all before after (Ok x) is wrote = (paid_by_write line before after all [] (sym is ∙ sym (append-nil line)) wrote, tt)
last_paid line all before after (Err e) is wrote = (tt, part_by_write line before after all [] e (sym is ∙ sym (append-nil line)) wrote)
