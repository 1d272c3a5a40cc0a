-- Laws of the words after the program's name.
use Rattle.std.proofs.Common.{◌≡◌, ◌↔◌, ℕ, ◌<◌, ◌≤◌, refl, Bool, true, false, ◌&&◌, ◌||◌, not, subst, cond, unwrap_or, arith, codes, List, [], ◌∷◌, length, Option, Some, None, Result, Ok, Err, ap, sym, ◌∙◌}
use Rattle.std.specs.Option.{ok_or}
use Rattle.std.proofs.lemmas.Bool.{le-leb, lt-leb}
use Rattle.line_words.specs.Words.{number_of}
use Rattle.line_words.specs.declared.request.LineError.{LineError}
use Rattle.line_words.specs.declared.request.LineError.TheVariants.{Syntax}
use Rattle.command_words.specs.CommandWords.{Setting, Behind, nothing_behind, is_option, joined_setting, with_setting, with_other, with_option, with_word, behind_of, is_among, are_among, values_of, given_once, usual_size, no_others, step_within, step_value, step_option, run_size, run_of, command_of}
use Rattle.command_words.specs.declared.words.Command.{Command}
use Rattle.command_words.specs.declared.words.WordsError.{WordsError}
use Rattle.command_words.specs.declared.words.WordsError.TheVariants.{Usage}
use Rattle.command_words.specs.Sizes.{step_given, size_from}
use Rattle.std.specs.Str.{bytes_eq}

-- ---- values

pub value_long : (word : List ℕ) → 10 < length word → step_value word ≡ None
unfolding step_value
value_long word long = rw (lt-leb (length word) 10 long) refl

ok_from : (o : Option ℕ) (r : Result ℕ LineError) (n : ℕ) → r ≡ Ok n → r ≡ ok_or o Syntax → o ≡ Some n
ok_from None r n is e = cc
ok_from (Some m) r n is e = cc

err_from : (o : Option ℕ) (r : Result ℕ LineError) (e : LineError) → r ≡ Err e → r ≡ ok_or o Syntax → o ≡ None
err_from None r e is h = refl
err_from (Some m) r e is h = cc

pub value_number : (word : List ℕ) (r : Result ℕ LineError) (n : ℕ) → length word ≤ 10 → r ≡ Ok n → r ≡ ok_or (number_of word) Syntax → step_value word ≡ step_within (Some n)
unfolding step_value
value_number word r n short is read = rw (le-leb (length word) 10 short) (ap step_within (ok_from (number_of word) r n is read))

pub value_none : (word : List ℕ) (r : Result ℕ LineError) (e : LineError) → length word ≤ 10 → r ≡ Err e → r ≡ ok_or (number_of word) Syntax → step_value word ≡ None
unfolding step_value
value_none word r e short is read = rw (le-leb (length word) 10 short) (ap step_within (err_from (number_of word) r e is read))

-- ---- one option more

lost : (t a m : Bool) (v : List ℕ) (vs : List (List ℕ)) (n : ℕ) → cond (a && ((t || false) && m) && no_others (cond t (v ∷ vs) vs)) (Some n) None ≡ None
lost true true true v vs n = refl
lost true true false v vs n = refl
lost true false m v vs n = refl
lost false true m v vs n = refl
lost false false m v vs n = refl

-- the step size behind an option whose own value was read
abbrev further : Option ℕ → Bool → Bool → List (List ℕ) → Option ℕ
further None a m vs = None
further (Some n) a m vs = cond (a && m && no_others vs) (Some n) None

gained : (t a m : Bool) (v : List ℕ) (vs : List (List ℕ)) (x : Option ℕ) → step_value v ≡ x → cond (a && ((t || false) && m)) (given_once usual_size step_value (cond t (v ∷ vs) vs)) None ≡ further (cond t x None) a m vs
gained true true true v [] None e = e
gained true true true v [] (Some n) e = e
gained true true true v (u ∷ us) None e = refl
gained true true true v (u ∷ us) (Some n) e = refl
gained true true false v vs None e = refl
gained true true false v vs (Some n) e = refl
gained true false m v vs None e = refl
gained true false m v vs (Some n) e = refl
gained false true m v vs x e = refl
gained false false m v vs x e = refl

abbrev pub then_from : Option ℕ → Option Behind → Option ℕ
then_from None o = None
then_from (Some n) o = size_from (Some n) o

then_none : (x : Option ℕ) → None ≡ then_from x None
then_none None = refl
then_none (Some n) = refl

then_some : (x : Option ℕ) (b : Behind) → further x (no_others b.others) (are_among (step_option ∷ []) b.settings) (values_of step_option b.settings) ≡ then_from x (Some b)
then_some None b = refl
then_some (Some n) b = refl

pub size_from-setting : (given : Option ℕ) (s : Setting) (o : Option Behind) → size_from given (with_setting s o) ≡ then_from (step_given given s.name s.value) o
size_from-setting None s None = then_none (step_given None s.name s.value)
size_from-setting None s (Some b) =
    gained (bytes_eq s.name step_option) (no_others b.others) (are_among (step_option ∷ []) b.settings) s.value (values_of step_option b.settings) (step_value s.value) refl
    ∙ then_some (step_given None s.name s.value) b
size_from-setting (Some n) s None = refl
size_from-setting (Some n) s (Some b) =
    lost (bytes_eq s.name step_option) (no_others b.others) (are_among (step_option ∷ []) b.settings) s.value (values_of step_option b.settings) n

pub size_from-nothing : (given : Option ℕ) (words : List (List ℕ)) → length words ≡ 0 → size_from given (behind_of words) ≡ Some (unwrap_or given usual_size)
unfolding behind_of
size_from-nothing None [] none = refl
size_from-nothing (Some n) [] none = refl
size_from-nothing given (w ∷ words) none = absurd (omega arith)

size_from-other-by : (given : Option ℕ) (word : List ℕ) (o : Option Behind) → size_from given (with_other word o) ≡ None
size_from-other-by None word None = refl
size_from-other-by None word (Some b) = refl
size_from-other-by (Some n) word None = refl
size_from-other-by (Some n) word (Some b) = refl

with_word-other : (t : Bool) (word : List ℕ) (a b : Option Behind) → t ≡ false → cond t a b ≡ b
with_word-other true word a b e = cc
with_word-other false word a b e = refl

-- a word that is no option
pub size_from-other : (given : Option ℕ) (word : List ℕ) (words : List (List ℕ)) → is_option word ≡ false → size_from given (behind_of (word ∷ words)) ≡ None
unfolding behind_of
size_from-other given word [] none =
    ap (size_from given) (with_word-other (is_option word) word _ _ none) ∙ size_from-other-by given word (Some nothing_behind)
size_from-other given word (next ∷ words) none =
    ap (size_from given) (with_word-other (is_option word) word _ _ none) ∙ size_from-other-by given word (behind_of (next ∷ words))

with_word-joined : (t : Bool) (word : List ℕ) (s : Setting) (o : Option Setting) (rest further other : Option Behind) (next : Option (List ℕ)) → t ≡ true → o ≡ Some s → cond t (with_option word o rest next further) other ≡ with_setting s rest
with_word-joined true word s None rest further other next e is = cc
with_word-joined true word s (Some t) rest further other next e is = let same : t ≡ s = cc in ap (λ x. with_setting x rest) same
with_word-joined false word s o rest further other next e is = cc

-- `--name=value`
pub behind_of-joined : (word : List ℕ) (words : List (List ℕ)) (s : Setting) → is_option word ≡ true → joined_setting word ≡ Some s → behind_of (word ∷ words) ≡ with_setting s (behind_of words)
unfolding behind_of
behind_of-joined word [] s is joined = with_word-joined (is_option word) word s (joined_setting word) _ _ _ None is joined
behind_of-joined word (next ∷ words) s is joined = with_word-joined (is_option word) word s (joined_setting word) _ _ _ (Some next) is joined

with_word-alone : (t : Bool) (word : List ℕ) (o : Option Setting) (rest further other : Option Behind) → t ≡ true → o ≡ None → cond t (with_option word o rest None further) other ≡ None
with_word-alone true word None rest further other e is = refl
with_word-alone true word (Some s) rest further other e is = cc
with_word-alone false word o rest further other e is = cc

-- an option without a value
pub behind_of-alone : (word : List ℕ) (words : List (List ℕ)) → length words ≡ 0 → is_option word ≡ true → joined_setting word ≡ None → behind_of (word ∷ words) ≡ None
unfolding behind_of
behind_of-alone word [] none is parted = with_word-alone (is_option word) word (joined_setting word) _ _ _ is parted
behind_of-alone word (next ∷ words) none is parted = absurd (omega arith)

with_word-parted : (t : Bool) (word value : List ℕ) (o : Option Setting) (rest further other : Option Behind) → t ≡ true → o ≡ None → cond t (with_option word o rest (Some value) further) other ≡ with_setting (record { name = word; value = value }) further
with_word-parted true word value None rest further other e is = refl
with_word-parted true word value (Some s) rest further other e is = cc
with_word-parted false word value o rest further other e is = cc

-- `--name value`
pub behind_of-parted : (word value : List ℕ) (words : List (List ℕ)) → is_option word ≡ true → joined_setting word ≡ None → behind_of (word ∷ value ∷ words) ≡ with_setting (record { name = word; value = value }) (behind_of words)
unfolding behind_of
behind_of-parted word value words is parted = with_word-parted (is_option word) word value (joined_setting word) _ _ _ is parted

-- ---- the words that a look finds

is_so : (t : Bool) → not t ≡ false → t ≡ true
is_so true e = refl
is_so false e = cc

is_not : (t : Bool) → not t ≡ true → t ≡ false
is_not true e = cc
is_not false e = refl

pub from_nothing : (given : Option ℕ) (all : List (List ℕ)) (n : ℕ) → n ≡ unwrap_or given usual_size → length all ≡ 0 → Some n ≡ size_from given (behind_of all)
from_nothing given all n is none = ap Some is ∙ sym (size_from-nothing given all none)

module _ (given : Option ℕ) (all words : List (List ℕ)) (word text : List ℕ) (t : Bool) where
  pub from_other : all ≡ word ∷ words → text ≡ word → t ≡ is_option text → t ≡ false → None ≡ size_from given (behind_of all)
  from_other are is test none =
      sym (ap (λ (ws : List (List ℕ)). size_from given (behind_of ws)) are
      ∙ size_from-other given word words (ap is_option (sym is) ∙ sym test ∙ none))

  pub from_joined : (s : Setting) (x r : Option ℕ) → all ≡ word ∷ words → text ≡ word → t ≡ is_option text → t ≡ true → joined_setting text ≡ Some s → x ≡ step_given given s.name s.value → r ≡ then_from x (behind_of words) → r ≡ size_from given (behind_of all)
  from_joined s x r are is test some joined one rest =
      rest ∙ ap (λ y. then_from y (behind_of words)) one
      ∙ sym (ap (λ (ws : List (List ℕ)). size_from given (behind_of ws)) are
      ∙ ap (size_from given) (behind_of-joined word words s (ap is_option (sym is) ∙ sym test ∙ some) (ap joined_setting (sym is) ∙ joined))
      ∙ size_from-setting given s (behind_of words))

  pub from_alone : (r : Option ℕ) → all ≡ word ∷ words → text ≡ word → t ≡ is_option text → t ≡ true → joined_setting text ≡ None → length words ≡ 0 → r ≡ None → r ≡ size_from given (behind_of all)
  from_alone r are is test some parted none ends =
      ends
      ∙ sym (ap (λ (ws : List (List ℕ)). size_from given (behind_of ws)) are
      ∙ ap (size_from given) (behind_of-alone word words none (ap is_option (sym is) ∙ sym test ∙ some) (ap joined_setting (sym is) ∙ parted)))

  pub from_parted : (value given_value : List ℕ) (more : List (List ℕ)) (x r : Option ℕ) → all ≡ word ∷ words → text ≡ word → t ≡ is_option text → t ≡ true → joined_setting text ≡ None → words ≡ value ∷ more → given_value ≡ value → x ≡ step_given given text given_value → r ≡ then_from x (behind_of more) → r ≡ size_from given (behind_of all)
  from_parted value given_value more x r are is test some parted next valued one rest =
      rest ∙ ap (λ y. then_from y (behind_of more)) (one ∙ (λ i. step_given given (is i) (valued i)))
      ∙ sym (ap (λ (ws : List (List ℕ)). size_from given (behind_of ws)) (are ∙ ap (λ (ws : List (List ℕ)). word ∷ ws) next)
      ∙ ap (size_from given) (behind_of-parted word value more (ap is_option (sym is) ∙ sym test ∙ some) (ap joined_setting (sym is) ∙ parted))
      ∙ size_from-setting given (record { name = word; value = value }) (behind_of more))

-- ---- the command

pub run_size-from : (o : Option Behind) → run_size o ≡ size_from None o
run_size-from None = refl
run_size-from (Some b) = refl

pub command_none : (all : List (List ℕ)) → length all ≡ 0 → command_of all ≡ None
unfolding command_of
command_none [] none = refl
command_none (w ∷ words) none = absurd (omega arith)

command_cons : (all words : List (List ℕ)) (command : List ℕ) → all ≡ command ∷ words → command_of all ≡ cond (bytes_eq command (codes "run")) (run_of (run_size (behind_of words))) None
unfolding command_of
command_cons all words command are = ap command_of are

module _ (all words : List (List ℕ)) (command text : List ℕ) (t : Bool) where
  pub command_other : all ≡ command ∷ words → text ≡ command → t ≡ not (bytes_eq text (codes "run")) → t ≡ true → command_of all ≡ None
  command_other are is test differs =
      command_cons all words command are
      ∙ ap (λ b. cond b (run_of (run_size (behind_of words))) None) (ap (λ w. bytes_eq w (codes "run")) (sym is) ∙ is_not (bytes_eq text (codes "run")) (sym test ∙ differs))

  pub command_run : (x : Option ℕ) → all ≡ command ∷ words → text ≡ command → t ≡ not (bytes_eq text (codes "run")) → t ≡ false → x ≡ size_from None (behind_of words) → command_of all ≡ run_of x
  command_run x are is test agrees sized =
      command_cons all words command are
      ∙ ap (λ b. cond b (run_of (run_size (behind_of words))) None) (ap (λ w. bytes_eq w (codes "run")) (sym is) ∙ is_so (bytes_eq text (codes "run")) (sym test ∙ agrees))
      ∙ ap run_of (run_size-from (behind_of words) ∙ sym sized)

pub no_command : (r : Result Command WordsError) (o : Option Command) → r ≡ Err Usage → o ≡ None → (r ≡ Err Usage) ↔ (o ≡ None)
no_command r o is none = (λ _. none, λ _. is)

pub a_command : (r : Result Command WordsError) (o : Option Command) (c : Command) → r ≡ Ok c → o ≡ Some c → (r ≡ Err Usage) ↔ (o ≡ None)
a_command r o c is some = (λ e. cc, λ e. cc)
