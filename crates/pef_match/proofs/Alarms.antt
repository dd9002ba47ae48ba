-- What filters give to alerts, a filter at a time.
use Rattle.std.proofs.Common.{◌≡◌, ℕ, ◌+◌, ◌-◌, ◌<◌, Bool, true, false, cond, max, min, List, [], ◌∷◌, ◌++◌, map, filter, Option, Some, MatchOption, ◌∙◌, ap, sym, subst, refl, append-nil, length, get_or, arith}
use Rattle.std.proofs.lemmas.List.{get_or_default}
use Rattle.std.proofs.lemmas.List.Elements.{filter-append}
use Rattle.filter_table.specs.Entry.{severity as severity_in}
use Rattle.filter_table.specs.Filters.{numbered}
use Rattle.pef_config.proofs.Numbered.{numbered-one_on}
use Rattle.pef_match.specs.declared.alarm.Alarm.{Alarm}
use Rattle.pef_match.specs.Alerts.{asks_alert, alarm_by, alarm}
use Rattle.pef_match.specs.Numbers.{numbers_from, greatest, least}
use Rattle.pef_match.proofs.Rows.{numbers_more}

max_assoc : (a b c : ℕ) → max a (max b c) ≡ max (max a b) c
max_assoc a b c = omega arith

greatest_more : (ns : List ℕ) (n : ℕ) → greatest (ns ++ n ∷ []) ≡ max (greatest ns) n
greatest_more [] n = omega arith
greatest_more (k ∷ ns) n = ap (max k) (greatest_more ns n) ∙ max_assoc k (greatest ns) n

least_more : (k : ℕ) (ns : List ℕ) (n : ℕ) → least k (ns ++ n ∷ []) ≡ min (least k ns) n
least_more k [] n = refl
least_more k (m ∷ ns) n = ap (min k) (least_more m ns n) ∙ min_assoc k (least m ns) n
  where
    min_assoc : (a b c : ℕ) → min a (min b c) ≡ min (min a b) c
    min_assoc a b c = omega arith

-- one alarm is the other with this severity and number beside it
abbrev pub Joins : Option Alarm → ℕ → ℕ → Alarm → Type 0
Joins before severity number after =
    MatchOption before (after ≡ record { severity = severity; filter = number })
    (λ alarm. after ≡ record { severity = max alarm.severity severity; filter = min alarm.filter number })

module _ (filters : ℕ → List ℕ) where
  alarm_more : (ns : List ℕ) (n : ℕ) (after : Alarm) → Joins (alarm_by filters ns) (severity_in (filters n)) n after → Some after ≡ alarm_by filters (ns ++ n ∷ [])
  alarm_more [] n after joins = ap Some (joins ∙ ap (λ s. record { severity = s; filter = n }) (alone (severity_in (filters n))))
    where
      alone : (s : ℕ) → s ≡ max s 0
      alone s = omega arith
  alarm_more (k ∷ ns) n after joins =
      ap Some (joins
      ∙ ap (λ s. record { severity = s; filter = min (least k ns) n }) (sym (severities (k ∷ ns)))
      ∙ ap (λ f. record { severity = greatest (map (λ j. severity_in (filters j)) (k ∷ (ns ++ n ∷ []))); filter = f }) (sym (least_more k ns n)))
    where
      severities : (ms : List ℕ) → greatest (map (λ j. severity_in (filters j)) (ms ++ n ∷ [])) ≡ max (greatest (map (λ j. severity_in (filters j)) ms)) (severity_in (filters n))
      severities [] = omega arith
      severities (m ∷ ms) = ap (max (severity_in (filters m))) (severities ms) ∙ max_assoc (severity_in (filters m)) (greatest (map (λ j. severity_in (filters j)) ms)) (severity_in (filters n))

module _ (filters : List (List ℕ)) (mask : ℕ) (event : List ℕ) (number : ℕ) where
  abbrev asks : ℕ → Bool
  asks n = asks_alert mask event number (numbered filters n)

  -- the filter at this place is the one of the next number
  here : (i : ℕ) (x : List ℕ) → x ≡ get_or filters i x → i < length filters → numbered filters (1 + i) ≡ x
  here i x is within =
      numbered-one_on filters (1 + i) (omega arith)
      ∙ ap (λ k. get_or filters k []) (one_less i)
      ∙ get_or_default filters i [] x within
      ∙ sym is
    where
      one_less : (i : ℕ) → 1 + i - 1 ≡ i
      one_less i = omega arith

  -- the numbers so far, and the next where its filter asks for an alert
  listed : (i : ℕ) (x : List ℕ) → x ≡ get_or filters i x → i < length filters
      → filter asks (numbers_from 1 (i + 1)) ≡ filter asks (numbers_from 1 i) ++ cond (asks_alert mask event number x) ((1 + i) ∷ []) []
  listed i x is within =
      ap (filter asks) (numbers_more 1 i)
      ∙ filter-append asks (numbers_from 1 i) ((1 + i) ∷ [])
      ∙ ap (λ f. filter asks (numbers_from 1 i) ++ cond (asks_alert mask event number f) ((1 + i) ∷ []) []) (here i x is within)

  -- the filters so far, and one more that doesn't ask for an alert
  pub alarm_passed : (i : ℕ) (x : List ℕ) → x ≡ get_or filters i x → i < length filters → asks_alert mask event number x ≡ false
      → alarm i (numbered filters) mask event number ≡ alarm (i + 1) (numbered filters) mask event number
  alarm_passed i x is within silent =
      ap (alarm_by (numbered filters)) (sym (append-nil (filter asks (numbers_from 1 i)))
      ∙ ap (λ b. filter asks (numbers_from 1 i) ++ cond b ((1 + i) ∷ []) []) (sym silent)
      ∙ sym (listed i x is within))

  -- and one more that does
  pub alarm_asked : (i : ℕ) (x : List ℕ) → x ≡ get_or filters i x → i < length filters → asks_alert mask event number x ≡ true
      → (before : Option Alarm) → before ≡ alarm i (numbered filters) mask event number → (n : ℕ) → n ≡ 1 + i
      → (after : Alarm) → Joins before (severity_in x) n after
      → Some after ≡ alarm (i + 1) (numbered filters) mask event number
  alarm_asked i x is within asking before was n next after joins =
      alarm_more (numbered filters) (filter asks (numbers_from 1 i)) (1 + i) after joins_here
      ∙ ap (λ b. alarm_by (numbered filters) (filter asks (numbers_from 1 i) ++ cond b ((1 + i) ∷ []) [])) (sym asking)
      ∙ ap (alarm_by (numbered filters)) (sym (listed i x is within))
    where
      at_alarm : Joins (alarm i (numbered filters) mask event number) (severity_in x) n after
      at_alarm = subst (λ b. Joins b (severity_in x) n after) was joins

      at_number : Joins (alarm i (numbered filters) mask event number) (severity_in x) (1 + i) after
      at_number = subst (λ m. Joins (alarm i (numbered filters) mask event number) (severity_in x) m after) next at_alarm

      joins_here : Joins (alarm i (numbered filters) mask event number) (severity_in (numbered filters (1 + i))) (1 + i) after
      joins_here = subst (λ f. Joins (alarm i (numbered filters) mask event number) (severity_in f) (1 + i) after) (sym (here i x is within)) at_number
