use Rattle.std.proofs.Common.{◌∙◌, ap, [], ◌∷◌, ◌++◌, append-nil, refl}
use Rattle.pef_settings.proofs.Reading.{joined}
use Rattle.pef_settings.proofs.settings.Settings.octets.Goals as goal

pub returns-clause-octets : goal.returns-clause-octets
returns-clause-octets c =
    let s = c.args.self in
    let one = c.with-octets.ensures.added ∙ ap (λ l. l ++ s.guid) c.new.ensures in
    let two = c.with-octets-2.ensures.added ∙ ap (λ l. l ++ s.agent) one in
    let three = c.with-octets-3.ensures.added ∙ ap (λ l. l ++ c.to_le_bytes.result) two in
    let four = c.with-octets-4.ensures.added ∙ ap (λ l. l ++ c.to_le_bytes-2.result) three in
    let five = c.with-octets-5.ensures.added ∙ ap (λ l. l ++ c.to_le_bytes-3.result) four in
    let six = c.with-octets-6.ensures.added ∙ ap (λ l. l ++ c.to_le_bytes-4.result) five in
    let seven = c.with-octets-7.ensures.added ∙ ap (λ l. l ++ c.to_le_bytes-5.result) six in
    let eight = c.with-octets-8.ensures.added ∙ ap (λ l. l ++ (s.control ∷ s.actions ∷ s.delay ∷ [])) seven in
    let nine = c.with.ensures.added ∙ ap (λ l. l ++ s.filter) eight in
    nine ∙ joined s.guid s.agent c.to_le_bytes.result c.to_le_bytes-2.result c.to_le_bytes-3.result c.to_le_bytes-4.result c.to_le_bytes-5.result (s.control ∷ s.actions ∷ s.delay ∷ []) s.filter
    ∙ rw (c.to_le_bytes.ensures, c.to_le_bytes-2.ensures, c.to_le_bytes-3.ensures, c.to_le_bytes-4.ensures, c.to_le_bytes-5.ensures, append-nil s.filter) refl
