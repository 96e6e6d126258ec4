-- What a parse gives for `--depth`: a text that was let through as a number from 1 to 1000.
use Rattle.std.proofs.Common.{◌≡◌, ◌∙◌, ◌<◌, ◌≤◌, ap, sym, subst, refl, arith, ℕ, zero, suc, List, [], ◌∷◌, map, length, codes, Bool, true, false, Some, None, inl, inr, is_some}
use Rattle.std.specs.Prelude.{Option, find, option_map, pos, slice_get}
use Rattle.std.specs.Borrow.{Bor}
use Rattle.std.specs.List.{All, slice_index_or}
use Rattle.std.specs.Str.{bytes_eq}
use Rattle.std.specs.Str.Parse.{ExplainsUnsignedError, HasUnsignedDigitsIfOk, ParsesUnsigned, digits_value, without_leading_plus}
use Rattle.std.proofs.lemmas.List.Elements.{All-get_or, All-drop}
use Rattle.std.proofs.lemmas.Slice.Eq.{bytes_eq-Decides}
use Rattle.clap.specs.Built.{IsAuto, IsParsedFrom, NamesNoGroup, SameRules}
use Rattle.clap.specs.Facts.{Entry, EntryPasses, HasIn, WantsDefault, args_of, groups_of, least_values, parser_of_value}
use Rattle.clap.specs.Lexer.{without_minus}
use Rattle.clap.specs.Matches.{ReadsOne}
use Rattle.clap.specs.Simple.{App, has_plain_fields}
use Rattle.clap.specs.Values.{Accepts, IsSignedIn, read_as, reading_of}
use Rattle.clap.specs.Walk.{Rule, Text, is_simple_arg, rule_of}
use Rattle.clap.specs.Words.{app_of, found_of, one_text}
use Rattle.clap.specs.declared.builder.action.ArgAction.TheVariants.{Count, Set}
use Rattle.clap.specs.declared.builder.arg.Arg.{Arg}
use Rattle.clap.specs.declared.builder.command.Command.{Command}
use Rattle.clap.specs.declared.builder.command.Command.TheViews.{out-Command}
use Rattle.clap.specs.declared.builder.value_parser.Reading.TheVariants.{WithoutMinus}
use Rattle.clap.specs.declared.builder.value_parser.ValueParser.{ValueParser}
use Rattle.clap.specs.declared.builder.value_parser.ValueParser.TheVariants.{Signed}
use Rattle.clap.specs.declared.parser.matches.ArgMatches.{ArgMatches}
use Rattle.clap.proofs.CallerLemmas.{default_present, same_rules_by_id}
use Rattle.clap.proofs.CallerReads.{signed_reads}
use Rattle.clap.proofs.SimpleLemmas.{is_false, is_nil}
use Rattle.clap.proofs.WalkLemmas.{both}
use Rattle.cad_job.specs.Arguments.{cadedit, depth_rule, file_rule, stop_rule}

-- the entry of an id that has one
entry_of : (P : Entry → Type 0) (xs : List Entry) (id : Text) → HasIn xs id → All P xs
    → (e : Entry) × (find (λ e. bytes_eq e.0.now id) xs ≡ Some e) × (e.0.now ≡ id) × P e
entry_of P [] id (i, low, here) all = absurd (omega arith)
entry_of P (x ∷ xs) id has all = go (bytes_eq x.0.now id) refl has (λ h. entry_of P xs id h (All-drop P 1 (x ∷ xs) all))
  where
    go : (t : Bool) → bytes_eq x.0.now id ≡ t → HasIn (x ∷ xs) id
        → (HasIn xs id → (e : Entry) × (find (λ e. bytes_eq e.0.now id) xs ≡ Some e) × (e.0.now ≡ id) × P e)
        → (e : Entry) × (find (λ e. bytes_eq e.0.now id) (x ∷ xs) ≡ Some e) × (e.0.now ≡ id) × P e
    go true is has rest = (x, rw is refl, (bytes_eq-Decides x.0.now id).0 is, All-get_or P (x ∷ xs) 0 x (omega arith) all)
    go false not (zero, low, here) rest = let bad : false ≡ true = sym not ∙ here x in cc
    go false not (suc i, low, here) rest =
        let found = rest (i, omega arith, here) in
        (found.0, rw not found.1, found.2, found.3)

-- three rules are those of three arguments
three_args : (xs : List Arg) (p q r : Rule) → map rule_of xs ≡ p ∷ q ∷ r ∷ []
    → (a : Arg) × (b : Arg) × (c : Arg) × (xs ≡ a ∷ b ∷ c ∷ []) × (rule_of a ≡ p) × (rule_of b ≡ q) × (rule_of c ≡ r)
three_args [] p q r h = let bad : ◌≡◌ {A = ℕ} 0 3 = ap (λ (l : List Rule). length l) h in absurd (omega arith)
three_args (a ∷ []) p q r h = let bad : ◌≡◌ {A = ℕ} 1 3 = ap (λ (l : List Rule). length l) h in absurd (omega arith)
three_args (a ∷ b ∷ []) p q r h = let bad : ◌≡◌ {A = ℕ} 2 3 = ap (λ (l : List Rule). length l) h in absurd (omega arith)
three_args (a ∷ b ∷ c ∷ []) p q r h =
    (a, b, c, refl, ap (λ (l : List Rule). slice_index_or l 0 p) h, ap (λ (l : List Rule). slice_index_or l 1 p) h, ap (λ (l : List Rule). slice_index_or l 2 p) h)
three_args (a ∷ b ∷ c ∷ d ∷ xs) p q r h = let bad : suc (suc (suc (suc (length (map rule_of xs))))) ≡ 3 = ap (λ (l : List Rule). length l) h in absurd (omega arith)

-- what the rule of `--depth` says of its argument
record IsDepthArg (a : Arg) : Type 0 where
  id : a.id.now ≡ codes "depth"
  set : a.action ≡ Some Set
  parser : a.value_parser ≡ Some (Signed (pos 1) (pos 1000))
  wants : WantsDefault a
  undelimited : is_some a.val_delim ≡ false
  one : 1 ≤ least_values a

one_from : (a : Arg) → a.num_vals ≡ None → 1 ≤ least_values a
one_from a none = rw none (omega arith)

some_from : (xs : List (Bor Text)) (t : Text) → map (λ s. s.now) xs ≡ t ∷ [] → 0 < length xs
some_from [] t h = cc
some_from (x ∷ xs) t h = omega arith

is_depth_arg : (a : Arg) → rule_of a ≡ depth_rule → IsDepthArg a
is_depth_arg a is =
    let simple : is_simple_arg a ≡ true = ap (λ (r : Rule). r.is_simple) is in
    let p = both _ _ simple in
    let q = both _ _ p.1 in
    let r = both _ _ q.1 in
    let s = both _ _ r.1 in
    record {
      id = ap (λ (r : Rule). r.id) is;
      set = ap (λ (r : Rule). r.action) is;
      parser = ap (λ (r : Rule). r.parser) is;
      wants = (is_nil _ q.0, some_from _ (codes "100") (ap (λ (r : Rule). r.defaults) is));
      undelimited = is_false _ s.0;
      one = one_from a (ap (λ (r : Rule). r.range) is);
    }

-- a text that `--depth` lets through, as `get_one` reads it
abbrev IsGiven : List (Bor Text) → Type 0
IsGiven vals = (t : Text) × (option_map (λ s. read_as WithoutMinus s.now) (slice_get vals 0) ≡ Some (without_minus t)) × IsSignedIn (pos 1) (pos 1000) t

first_given : (vals : List (Bor Text)) → 0 < length vals → All (λ v. IsSignedIn (pos 1) (pos 1000) v.now) vals → IsGiven vals
first_given [] some all = absurd (omega arith)
first_given (v ∷ vs) some all = (v.now, refl, All-get_or (λ v. IsSignedIn (pos 1) (pos 1000) v.now) (v ∷ vs) 0 v (omega arith) all)

-- the entry of `depth`, in a built command whose arguments of that id keep the rules of this one, has such a text
entry_given : (c : Command) (a : Arg) (e : Entry) → IsDepthArg a → groups_of c ≡ [] → e.0.now ≡ codes "depth"
    → ((i : ℕ) (y : Arg) → i < length (args_of c) → slice_index_or (args_of c) i y ≡ y → bytes_eq y.id.now (codes "depth") ≡ true → SameRules a y)
    → EntryPasses c e → (e.1.reading ≡ WithoutMinus) × IsGiven e.1.vals.items
entry_given c a e is no_groups key same (passed, filled, counts, grouped, read) =
    let no_group : e.1.is_group ≡ true → ⊥ = λ g. elim (grouped g) [
      | inl empty ↦ let bad : codes "depth" ≡ [] = sym key ∙ empty in cc
      | inr some ↦ let bad : 0 < 0 = rw no_groups at some in absurd (omega arith)
    ] in
    let parsed = λ (y : Arg) (s : SameRules a y). ap parser_of_value (s.parser _ is.parser) in
    let accepted : All (λ v. IsSignedIn (pos 1) (pos 1000) v.now) e.1.vals.items = elim passed [
      | inl g ↦ absurd (no_group g)
      | inr vals ↦ λ k d low.
          let (i, y, within, at, here) = vals k d low in
          let s = same i y within at (rw key at here.0) in
          subst (λ (q : ValueParser). Accepts y.ignore_case q (slice_index_or e.1.vals.items k d).now) (parsed y s) here.1
    ] in
    let some : 0 < length e.1.vals.items = elim filled [
      | inl g ↦ absurd (no_group g.0)
      | inr (inl some) ↦ some
      | inr (inr (inl counted)) ↦
          let (i, y, within, at, here) = counted.1 in
          let s = same i y within at (rw key at here.0) in
          let bad : Set ≡ Count = rw (s.action Set is.set) at here.1 in cc
      | inr (inr (inr (i, y, within, at, here))) ↦
          let s = same i y within at (rw key at here.0) in
          elim here.1 [
            | inl none ↦ let one = s.least is.set is.one in absurd (omega arith)
            | inr has ↦ let bad : false ≡ true = sym is.undelimited ∙ (ap is_some (sym s.val_delim) ∙ has) in cc
          ]
    ] in
    let reading : e.1.reading ≡ WithoutMinus = elim read [
      | inl g ↦ absurd (no_group g)
      | inr (i, y, within, at, here) ↦
          let s = same i y within at (rw key at here.0) in
          sym here.1 ∙ ap reading_of (parsed y s)
    ] in
    (reading, first_given e.1.vals.items some accepted)

-- all arguments of three
all_three : (P : Arg → Type 0) (a b c : Arg) → P a → P b → P c → All P (a ∷ b ∷ c ∷ [])
all_three P a b c pa pb pc zero d low = pa
all_three P a b c pa pb pc (suc zero) d low = pb
all_three P a b c pa pb pc (suc (suc zero)) d low = pc
all_three P a b c pa pb pc (suc (suc (suc k))) d low = absurd (omega arith)

-- an argument with a simple rule is of no group
ungrouped : (a : Arg) (r : Rule) → rule_of a ≡ r → r.is_simple ≡ true → a.groups.items ≡ []
ungrouped a r is simple = is_nil _ (both _ _ (both _ _ (both _ _ (ap (λ (r : Rule). r.is_simple) is ∙ simple)).1).1).0

-- only the first of the three arguments has its id
only_first : (xs : List Arg) (a b c : Arg) → xs ≡ a ∷ b ∷ c ∷ [] → a.id.now ≡ codes "depth" → b.id.now ≡ codes "stop" → c.id.now ≡ codes "file"
    → (j : ℕ) (e : Arg) → j < length xs → bytes_eq (slice_index_or xs j e).id.now (slice_index_or xs 0 a).id.now ≡ true → j ≡ 0
only_first xs a b c list depth stop file = rw list go
  where
    go : (j : ℕ) (e : Arg) → j < length (a ∷ b ∷ c ∷ []) → bytes_eq (slice_index_or (a ∷ b ∷ c ∷ []) j e).id.now a.id.now ≡ true → j ≡ 0
    go zero e low same = refl
    go (suc zero) e low same = let bad : false ≡ true = rw (depth, stop) at same in cc
    go (suc (suc zero)) e low same = let bad : false ≡ true = rw (depth, file) at same in cc
    go (suc (suc (suc j))) e low same = absurd (omega arith)

-- a plain command has no groups and no global argument
settings : (c : Command) → has_plain_fields (out-Command c) ≡ true → (groups_of c ≡ []) × ((out-Command c).has_globals ≡ false)
settings c plain =
    let p = both _ _ plain in
    (is_nil _ p.0, is_false _ (both _ _ (both _ _ p.1).1).0)

-- the text that a parse gives for `--depth`
depth_given : (old : Command) (m : ArgMatches) → app_of old ≡ cadedit → IsParsedFrom old m
    → (t : Text) × (one_text (found_of m) (codes "depth") ≡ Some (without_minus t)) × IsSignedIn (pos 1) (pos 1000) t
depth_given old m is p =
    let (a, b, f, list, is_depth, is_stop, is_file) = three_args (args_of old) depth_rule stop_rule file_rule (ap (λ (x : App). x.top.rules) is) in
    let arg = is_depth_arg a is_depth in
    let stop : b.id.now ≡ codes "stop" = ap (λ (r : Rule). r.id) is_stop in
    let file : f.id.now ≡ codes "file" = ap (λ (r : Rule). r.id) is_file in
    let (groupless, globals) = settings old (ap (λ (x : App). x.top.is_plain) is) in
    let none_named : NamesNoGroup old = rw list (all_three (λ a. a.groups.items ≡ []) a b f (ungrouped a _ is_depth refl) (ungrouped b _ is_stop refl) (ungrouped f _ is_file refl)) in
    let no_groups : groups_of p.built ≡ [] = (p.from.same_groups none_named).1 ∙ groupless in
    let low : 0 < length (args_of old) = rw list (omega arith) in
    let first : slice_index_or (args_of old) 0 a ≡ a = ap (λ (l : List Arg). slice_index_or l 0 a) list in
    let own : IsAuto (slice_index_or (args_of old) 0 a) → ⊥ = rw (first, arg.id) (λ auto. elim auto [ inl h ↦ cc | inr h ↦ cc ]) in
    let has = default_present old m p globals 0 a low (rw first arg.wants) in
    let has_depth : HasIn (found_of m).entries.items (codes "depth") = rw (first, arg.id) at has in
    let (e, found, key, passes) = entry_of (EntryPasses p.built) _ (codes "depth") has_depth (p.parsed (p.from.globals ∙ globals)).values in
    let given = entry_given p.built a e arg no_groups key
    (λ i y within at same. rw first at (same_rules_by_id old m p 0 a low (only_first _ a b f list arg.id stop file) own i y within at (rw (first, arg.id) same))) passes in
    (given.1.0, rw (found, given.0) given.1.1, given.1.2)

-- what `get_one` reads of it as a `u16`
pub depth_read : (old : Command) (m : ArgMatches) (r : Option ℕ) → app_of old ≡ cadedit → IsParsedFrom old m
    → ((t : Text) → one_text (found_of m) (codes "depth") ≡ Some t → ReadsOne (λ t x. ParsesUnsigned 16 10 t x × ExplainsUnsignedError 10 t x × HasUnsignedDigitsIfOk t x) t r)
    → (n : ℕ) × (t : Text) × (r ≡ Some n) × (1 ≤ n) × (n ≤ 1000) × (one_text (found_of m) (codes "depth") ≡ Some t) × (n ≡ digits_value 10 (without_leading_plus t))
depth_read old m r is p reads =
    let (text, found, passed) = depth_given old m is p in
    let read = reads (without_minus text) found in
    let (n, given, low, high) = signed_reads _ (λ t x. ParsesUnsigned 16 10 t x × ExplainsUnsignedError 10 t x × HasUnsignedDigitsIfOk t x) 16 1 1000 text r read (λ t x gives. gives.0) (omega arith) passed in
    (n, without_minus text, given, low, high, found, (rw given at read).0.1)
