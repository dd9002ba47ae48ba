-- What a text says as a script is what it spells, whatever items its lines give.
use Rattle.std.proofs.Common.{◌≡◌, ◌≢◌, ℕ, zero, suc, ◌+◌, ◌≤◌, Bool, true, false, if◌then◌else◌, List, [], ◌∷◌, ◌++◌, length, map, Option, Some, None, refl, sym, ◌∙◌, ap, subst, arith}
use Rattle.std.proofs.lemmas.Bool.{false≢true}
use Rattle.script_text.specs.declared.head.Head.{Head}
use Rattle.script_text.specs.Lines.{lines_of}
use Rattle.script_text.specs.Forms.{is_end}
use Rattle.script_text.specs.Script.{head_of, item_in, Given, bad_at, give_item, given_by, given, Said, said, said_by, said_of_lines, said_of, SpellsHead, AreItems, IsWholeScript, IsBadNext, HasBadLine, HasNoHead}
use Rattle.script_text.proofs.Spelling.{head_spelled, spelled_head}

-- the lines behind a head, from the first that isn't passed
record IsWhole {I : Type 0} (item_of : List ℕ → Option I) (lines : List (List ℕ)) (left : ℕ) (items : List I) : Type 0 where
  between : List (List ℕ)
  last : List ℕ
  behind : List (List ℕ)
  are : lines ≡ between ++ last ∷ behind
  are_items : AreItems item_of between items
  counted : length items ≡ left
  ended : is_end last ≡ true

record IsBad {I : Type 0} (item_of : List ℕ → Option I) (lines : List (List ℕ)) (left : ℕ) (items : List I) : Type 0 where
  between : List (List ℕ)
  behind : List (List ℕ)
  are : lines ≡ between ++ behind
  are_items : AreItems item_of between items
  within : length items ≤ left
  is_bad : IsBadNext item_of (length items) left behind

abbrev made : {I : Type 0} → List I → Option ℕ → Given I
made items bad = record { items = items; bad = bad }

-- items and the end, line by line
ended_here : {I : Type 0} (item_of : List ℕ → Option I) (t : Bool) (number : ℕ) (line : List ℕ) (lines : List (List ℕ)) (items : List I) → is_end line ≡ t
    → (if t then made [] None else bad_at number) ≡ made items None → IsWhole item_of (line ∷ lines) zero items
ended_here {I} item_of true number line lines items ended gives =
    subst (IsWhole item_of (line ∷ lines) zero) (ap (λ (g : Given I). g.items) gives)
    (record { between = []; last = line; behind = lines; are = refl; are_items = refl; counted = refl; ended = ended })
ended_here {I} item_of false number line lines items ended gives = absurd (cc (ap (λ (g : Given I). g.bad) gives))

whole_step : {I : Type 0} (item_of : List ℕ → Option I) (o : Option I) (left number : ℕ) (line : List ℕ) (lines : List (List ℕ)) (items : List I) → item_in item_of line ≡ o
    → ((more : List I) → given item_of lines left (number + 1) ≡ made more None → IsWhole item_of lines left more)
    → given_by o number (given item_of lines left (number + 1)) ≡ made items None → IsWhole item_of (line ∷ lines) (suc left) items
whole_step {I} item_of (Some item) left number line lines items has behind gives =
    let g = given item_of lines left (number + 1) in
    let is : item ∷ g.items ≡ items = ap (λ (g : Given I). g.items) gives in
    let none : g.bad ≡ None = ap (λ (g : Given I). g.bad) gives in
    let w = behind g.items (ap (made g.items) none) in
    subst (IsWhole item_of (line ∷ lines) (suc left)) is (record {
      between = line ∷ w.between;
      last = w.last;
      behind = w.behind;
      are = ap (λ l. line ∷ l) w.are;
      are_items = ap (λ o. o ∷ map (item_in item_of) w.between) has ∙ ap (λ l. Some item ∷ l) w.are_items;
      counted = omega (arith, w.counted);
      ended = w.ended;
    })
whole_step {I} item_of None left number line lines items has behind gives = absurd (cc (ap (λ (g : Given I). g.bad) gives))

given_whole : {I : Type 0} (item_of : List ℕ → Option I) (lines : List (List ℕ)) (left number : ℕ) (items : List I) → given item_of lines left number ≡ made items None → IsWhole item_of lines left items
given_whole {I} item_of [] left number items gives = absurd (cc (ap (λ (g : Given I). g.bad) gives))
given_whole item_of (line ∷ lines) zero number items gives = ended_here item_of (is_end line) number line lines items refl gives
given_whole item_of (line ∷ lines) (suc left) number items gives =
    whole_step item_of (item_in item_of line) left number line lines items refl (λ more is. given_whole item_of lines left (number + 1) more is) gives

item_gives : {I : Type 0} (item_of : List ℕ → Option I) (line : List ℕ) (item : I) (lines : List (List ℕ)) (left number : ℕ) (g : Given I) → item_in item_of line ≡ Some item
    → given item_of lines left (number + 1) ≡ g → given item_of (line ∷ lines) (suc left) number ≡ give_item item g
item_gives item_of line item lines left number g has is = ap (λ o. given_by o number (given item_of lines left (number + 1))) has ∙ ap (give_item item) is

-- the first of lists that are one by one the same
first_same : {I : Type 0} (item_of : List ℕ → Option I) (line : List ℕ) (item : I) (between : List (List ℕ)) (items : List I) → AreItems item_of (line ∷ between) (item ∷ items)
    → (item_in item_of line ≡ Some item) × AreItems item_of between items
first_same item_of line item between items are = (cc, cc)

whole_given : {I : Type 0} (item_of : List ℕ → Option I) (between : List (List ℕ)) (items : List I) (last : List ℕ) (behind : List (List ℕ)) (number : ℕ) → AreItems item_of between items → is_end last ≡ true
    → given item_of (between ++ last ∷ behind) (length items) number ≡ made items None
whole_given item_of [] [] last behind number are ended = ap (λ t. if t then made [] None else bad_at number) ended
whole_given item_of [] (item ∷ items) last behind number are ended = absurd (cc are)
whole_given item_of (line ∷ between) [] last behind number are ended = absurd (cc are)
whole_given item_of (line ∷ between) (item ∷ items) last behind number are ended =
    let s = first_same item_of line item between items are in
    item_gives item_of line item (between ++ last ∷ behind) (length items) number (made items None) s.0 (whole_given item_of between items last behind (number + 1) s.1 ended)

-- the first of these lines is bad
bad_now : {I : Type 0} (item_of : List ℕ → Option I) (lines : List (List ℕ)) (left number bad : ℕ) (items : List I) → IsBadNext item_of 0 left lines
    → bad_at number ≡ made items (Some bad) → IsBad item_of lines left items × (bad ≡ number + length items)
bad_now {I} item_of lines left number bad items next gives =
    let none : [] ≡ items = ap (λ (g : Given I). g.items) gives in
    let some : Some number ≡ Some bad = ap (λ (g : Given I). g.bad) gives in
    let same : number ≡ bad = cc in
    let long : 0 ≡ length items = ap length none in (
      subst (IsBad item_of lines left) none (record { between = []; behind = lines; are = refl; are_items = refl; within = omega arith; is_bad = next }),
      omega (arith, same, long),
    )

end_bad : {I : Type 0} (item_of : List ℕ → Option I) (t : Bool) (number bad : ℕ) (line : List ℕ) (lines : List (List ℕ)) (items : List I) → is_end line ≡ t
    → (if t then made [] None else bad_at number) ≡ made items (Some bad) → IsBad item_of (line ∷ lines) zero items × (bad ≡ number + length items)
end_bad {I} item_of true number bad line lines items ended gives = absurd (cc (ap (λ (g : Given I). g.bad) gives))
end_bad item_of false number bad line lines items other gives =
    bad_now item_of (line ∷ lines) zero number bad items (λ item e. refl, λ e. absurd (false≢true (sym other ∙ e))) gives

suc_bad : {I : Type 0} (item_of : List ℕ → Option I) (taken count : ℕ) (behind : List (List ℕ)) → IsBadNext item_of taken count behind → IsBadNext item_of (suc taken) (suc count) behind
suc_bad item_of taken count [] bad = tt
suc_bad item_of taken count (line ∷ lines) bad = (λ item e. ap suc (bad.0 item e), λ e same. bad.1 e (omega (arith, same)))

bad_step : {I : Type 0} (item_of : List ℕ → Option I) (o : Option I) (left number bad : ℕ) (line : List ℕ) (lines : List (List ℕ)) (items : List I) → item_in item_of line ≡ o
    → ((more : List I) → given item_of lines left (number + 1) ≡ made more (Some bad) → IsBad item_of lines left more × (bad ≡ number + 1 + length more))
    → given_by o number (given item_of lines left (number + 1)) ≡ made items (Some bad) → IsBad item_of (line ∷ lines) (suc left) items × (bad ≡ number + length items)
bad_step {I} item_of (Some item) left number bad line lines items has behind gives =
    let g = given item_of lines left (number + 1) in
    let is : item ∷ g.items ≡ items = ap (λ (g : Given I). g.items) gives in
    let some : g.bad ≡ Some bad = ap (λ (g : Given I). g.bad) gives in
    let w = behind g.items (ap (made g.items) some) in
    let b = w.0 in
    let number_is = w.1 in
    let long : length (item ∷ g.items) ≡ length items = ap length is in (
      subst (IsBad item_of (line ∷ lines) (suc left)) is (record {
        between = line ∷ b.between;
        behind = b.behind;
        are = ap (λ l. line ∷ l) b.are;
        are_items = ap (λ o. o ∷ map (item_in item_of) b.between) has ∙ ap (λ l. Some item ∷ l) b.are_items;
        within = let w = b.within in omega (arith, w);
        is_bad = suc_bad item_of (length g.items) left b.behind b.is_bad;
      }),
      omega (arith, number_is, long),
    )
bad_step {I} item_of None left number bad line lines items has behind gives =
    let no_item : (item : I) → item_in item_of line ≡ Some item → 0 ≡ suc left = λ item e. absurd (cc (sym has ∙ e)) in
    bad_now item_of (line ∷ lines) (suc left) number bad items (no_item, λ e same. omega (arith, same)) gives

given_bad : {I : Type 0} (item_of : List ℕ → Option I) (lines : List (List ℕ)) (left number bad : ℕ) (items : List I) → given item_of lines left number ≡ made items (Some bad)
    → IsBad item_of lines left items × (bad ≡ number + length items)
given_bad item_of [] left number bad items gives = bad_now item_of [] left number bad items tt gives
given_bad item_of (line ∷ lines) zero number bad items gives = end_bad item_of (is_end line) number bad line lines items refl gives
given_bad item_of (line ∷ lines) (suc left) number bad items gives =
    bad_step item_of (item_in item_of line) left number bad line lines items refl (λ more is. given_bad item_of lines left (number + 1) bad more is) gives

no_end_gives : {I : Type 0} (t : Bool) (number : ℕ) → (t ≡ true → zero ≢ zero) → (if t then made {I = I} [] None else bad_at number) ≡ bad_at number
no_end_gives true number no_end = absurd (no_end refl refl)
no_end_gives false number no_end = refl

no_item_gives : {I : Type 0} (o : Option I) (left number : ℕ) (behind : Given I) → ((item : I) → o ≡ Some item → 0 ≡ suc left) → given_by o number behind ≡ bad_at number
no_item_gives (Some item) left number behind no_item = let same = no_item item refl in absurd (omega (arith, same))
no_item_gives None left number behind no_item = refl

next_gives : {I : Type 0} (item_of : List ℕ → Option I) (line : List ℕ) (lines : List (List ℕ)) (left number : ℕ) → IsBadNext item_of 0 left (line ∷ lines)
    → given item_of (line ∷ lines) left number ≡ bad_at number
next_gives item_of line lines zero number next = no_end_gives (is_end line) number next.1
next_gives item_of line lines (suc left) number next = no_item_gives (item_in item_of line) left number (given item_of lines left (number + 1)) next.0

pred_bad : {I : Type 0} (item_of : List ℕ → Option I) (taken count : ℕ) (behind : List (List ℕ)) → IsBadNext item_of (suc taken) (suc count) behind → IsBadNext item_of taken count behind
pred_bad item_of taken count [] bad = tt
pred_bad item_of taken count (line ∷ lines) bad = (λ item e. let same = bad.0 item e in omega (arith, same), λ e same. bad.1 e (ap suc same))

bad_given : {I : Type 0} (item_of : List ℕ → Option I) (between : List (List ℕ)) (items : List I) (behind : List (List ℕ)) (left number : ℕ) → AreItems item_of between items → length items ≤ left
    → IsBadNext item_of (length items) left behind → given item_of (between ++ behind) left number ≡ made items (Some (length items + number))
bad_given item_of [] [] [] left number are within bad = let sum : number ≡ 0 + number = omega arith in ap (λ n. made [] (Some n)) sum
bad_given item_of [] [] (line ∷ lines) left number are within bad =
    let sum : number ≡ 0 + number = omega arith in next_gives item_of line lines left number bad ∙ ap (λ n. made [] (Some n)) sum
bad_given item_of [] (item ∷ items) behind left number are within bad = absurd (cc are)
bad_given item_of (line ∷ between) [] behind left number are within bad = absurd (cc are)
bad_given item_of (line ∷ between) (item ∷ items) behind zero number are within bad = absurd (omega (arith, within))
bad_given item_of (line ∷ between) (item ∷ items) behind (suc left) number are within bad =
    let s = first_same item_of line item between items are in
    let sum : length items + (number + 1) ≡ length (item ∷ items) + number = omega arith in
    item_gives item_of line item (between ++ behind) left number (made items (Some (length items + (number + 1)))) s.0
    (bad_given item_of between items behind left (number + 1) s.1 (omega (arith, within)) (pred_bad item_of (length items) left behind bad))
    ∙ ap (λ n. made (item ∷ items) (Some n)) sum

-- a whole text
abbrev told : {I : Type 0} → Head → Given I → Said I
told head given = record { id = head.id; count = head.count; given = given }

head_is : (word line : List ℕ) (head : Head) (id count : ℕ) → head_of word line ≡ Some head → head.id ≡ id → head.count ≡ count → SpellsHead word id count line
head_is word line head id count has id_is count_is =
    subst (λ n. SpellsHead word n count line) id_is (subst (λ n. SpellsHead word head.id n line) count_is (head_spelled word line head has))

whole_text : {I : Type 0} (word : List ℕ) (item_of : List ℕ → Option I) (id count left : ℕ) (items : List I) (line : List ℕ) (lines : List (List ℕ)) (text : List ℕ)
    → lines_of text ≡ line ∷ lines → SpellsHead word id count line → left ≡ count → IsWhole item_of lines left items → IsWholeScript word item_of id count items text
whole_text word item_of id count left items line lines text are head all w = record {
  head = line;
  between = w.between;
  last = w.last;
  behind = w.behind;
  lines = are ∙ ap (λ l. line ∷ l) w.are;
  is_head = head;
  are_items = w.are_items;
  counted = w.counted ∙ all;
  ended = w.ended;
}

whole_lines : {I : Type 0} (word : List ℕ) (item_of : List ℕ → Option I) (o : Option Head) (id count : ℕ) (items : List I) (line : List ℕ) (lines : List (List ℕ)) (text : List ℕ)
    → lines_of text ≡ line ∷ lines → head_of word line ≡ o → said_by item_of o lines ≡ Some (said id count items None) → IsWholeScript word item_of id count items text
whole_lines {I} word item_of (Some head) id count items line lines text are has says =
    let is : told head (given item_of lines head.count 2) ≡ said id count items None = cc in
    let all : head.count ≡ count = ap (λ (s : Said I). s.count) is in
    whole_text word item_of id count head.count items line lines text are (head_is word line head id count has (ap (λ (s : Said I). s.id) is) all) all
    (given_whole item_of lines head.count 2 items (ap (λ (s : Said I). s.given) is))
whole_lines word item_of None id count items line lines text are has says = absurd (cc says)

pub says_whole : {I : Type 0} (word : List ℕ) (item_of : List ℕ → Option I) (text : List ℕ) (id count : ℕ) (items : List I) → said_of word item_of text ≡ Some (said id count items None)
    → IsWholeScript word item_of id count items text
says_whole word item_of text id count items says = by (lines_of text) refl says
  where
    by : (lines : List (List ℕ)) → lines_of text ≡ lines → said_of_lines word item_of lines ≡ Some (said id count items None) → IsWholeScript word item_of id count items text
    by [] are says = absurd (cc says)
    by (line ∷ lines) are says = whole_lines word item_of (head_of word line) id count items line lines text are refl says

head_at : ℕ → ℕ → Head
head_at id count = record { id = id; count = count }

pub whole_says : {I : Type 0} (word : List ℕ) (item_of : List ℕ → Option I) (text : List ℕ) (id count : ℕ) (items : List I) → IsWholeScript word item_of id count items text
    → said_of word item_of text ≡ Some (said id count items None)
unfolding head_at
whole_says word item_of text id count items w =
    let lines = w.between ++ w.last ∷ w.behind in
    ap (said_of_lines word item_of) w.lines ∙ ap (λ o. said_by item_of o lines) (spelled_head word w.head (head_at id count) w.is_head)
    ∙ ap (λ n. Some (told (head_at id count) (given item_of lines n 2))) (sym w.counted)
    ∙ ap (λ g. Some (told (head_at id count) g)) (whole_given item_of w.between items w.last w.behind 2 w.are_items w.ended)

bad_text : {I : Type 0} (word : List ℕ) (item_of : List ℕ → Option I) (id count left : ℕ) (items : List I) (number : ℕ) (line : List ℕ) (lines : List (List ℕ)) (text : List ℕ)
    → lines_of text ≡ line ∷ lines → SpellsHead word id count line → left ≡ count → IsBad item_of lines left items → number ≡ 2 + length items → HasBadLine word item_of id count items number text
bad_text word item_of id count left items number line lines text are head all w number_is = record {
  head = line;
  between = w.between;
  behind = w.behind;
  lines = are ∙ ap (λ l. line ∷ l) w.are;
  is_head = head;
  are_items = w.are_items;
  within = let within = w.within in omega (arith, within, all);
  is_bad = subst (λ n. IsBadNext item_of (length items) n w.behind) all w.is_bad;
  number_is = omega (arith, number_is);
}

bad_lines : {I : Type 0} (word : List ℕ) (item_of : List ℕ → Option I) (o : Option Head) (id count : ℕ) (items : List I) (number : ℕ) (line : List ℕ) (lines : List (List ℕ)) (text : List ℕ)
    → lines_of text ≡ line ∷ lines → head_of word line ≡ o → said_by item_of o lines ≡ Some (said id count items (Some number)) → HasBadLine word item_of id count items number text
bad_lines {I} word item_of (Some head) id count items number line lines text are has says =
    let is : told head (given item_of lines head.count 2) ≡ said id count items (Some number) = cc in
    let all : head.count ≡ count = ap (λ (s : Said I). s.count) is in
    let both = given_bad item_of lines head.count 2 number items (ap (λ (s : Said I). s.given) is) in
    bad_text word item_of id count head.count items number line lines text are (head_is word line head id count has (ap (λ (s : Said I). s.id) is) all) all both.0 both.1
bad_lines word item_of None id count items number line lines text are has says = absurd (cc says)

pub says_bad : {I : Type 0} (word : List ℕ) (item_of : List ℕ → Option I) (text : List ℕ) (id count : ℕ) (items : List I) (number : ℕ) → said_of word item_of text ≡ Some (said id count items (Some number))
    → HasBadLine word item_of id count items number text
says_bad word item_of text id count items number says = by (lines_of text) refl says
  where
    by : (lines : List (List ℕ)) → lines_of text ≡ lines → said_of_lines word item_of lines ≡ Some (said id count items (Some number)) → HasBadLine word item_of id count items number text
    by [] are says = absurd (cc says)
    by (line ∷ lines) are says = bad_lines word item_of (head_of word line) id count items number line lines text are refl says

pub bad_says : {I : Type 0} (word : List ℕ) (item_of : List ℕ → Option I) (text : List ℕ) (id count : ℕ) (items : List I) (number : ℕ) → HasBadLine word item_of id count items number text
    → said_of word item_of text ≡ Some (said id count items (Some number))
unfolding head_at
bad_says word item_of text id count items number w =
    let lines = w.between ++ w.behind in
    ap (said_of_lines word item_of) w.lines ∙ ap (λ o. said_by item_of o lines) (spelled_head word w.head (head_at id count) w.is_head)
    ∙ ap (λ g. Some (told (head_at id count) g)) (bad_given item_of w.between items w.behind count 2 w.are_items w.within w.is_bad)
    ∙ ap (λ n. Some (said id count items (Some n))) (sym w.number_is)

none_by : {I : Type 0} (item_of : List ℕ → Option I) (o : Option Head) (lines : List (List ℕ)) → said_by item_of o lines ≡ None → o ≡ None
none_by item_of (Some head) lines says = absurd (cc says)
none_by item_of None lines says = refl

pub says_nothing : {I : Type 0} (word : List ℕ) (item_of : List ℕ → Option I) (lines : List (List ℕ)) → said_of_lines word item_of lines ≡ None → HasNoHead word lines
unfolding head_at
says_nothing word item_of [] says = tt
says_nothing word item_of (line ∷ lines) says = λ id count spells.
    cc (sym (none_by item_of (head_of word line) lines says) ∙ spelled_head word line (head_at id count) spells)

no_head_by : {I : Type 0} (word : List ℕ) (item_of : List ℕ → Option I) (line : List ℕ) (o : Option Head) (lines : List (List ℕ)) → head_of word line ≡ o
    → ((id count : ℕ) → SpellsHead word id count line → ⊥) → said_by item_of o lines ≡ None
no_head_by word item_of line (Some head) lines has none = absurd (none head.id head.count (head_spelled word line head has))
no_head_by word item_of line None lines has none = refl

pub nothing_says : {I : Type 0} (word : List ℕ) (item_of : List ℕ → Option I) (lines : List (List ℕ)) → HasNoHead word lines → said_of_lines word item_of lines ≡ None
nothing_says word item_of [] none = refl
nothing_says word item_of (line ∷ lines) none = no_head_by word item_of line (head_of word line) lines refl none
