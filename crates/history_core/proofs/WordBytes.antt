-- The words in bytes are bytes.
use Rattle.std.proofs.Common.{ℕ, zero, suc, List, [], ◌∷◌, ◌++◌, length, arith}
use Rattle.std.specs.Prelude.{All}
use Rattle.std.specs.Int.{w32, to_be_bytes}
use Rattle.std.proofs.lemmas.List.Elements.{All-cons, All-nil}
use Rattle.file_numbers.proofs.Numbers.{AreBytes}
use Rattle.word_file.specs.Spelling.{TaggedWords, spelling, body, header, word_bytes}

bytes_front : (xs ys : List ℕ) → AreBytes (xs ++ ys) → AreBytes xs
bytes_front [] ys bytes i = omega arith
bytes_front (x ∷ xs) ys bytes zero = bytes 0
bytes_front (x ∷ xs) ys bytes (suc i) = bytes_front xs ys (λ j. bytes (suc j)) i

bytes_rest : (xs ys : List ℕ) → AreBytes (xs ++ ys) → AreBytes ys
bytes_rest [] ys bytes = bytes
bytes_rest (x ∷ xs) ys bytes = bytes_rest xs ys (λ j. bytes (suc j))

body_bytes : (words : List (List ℕ)) → AreBytes (body words) → All AreBytes words
unfolding body word_bytes
body_bytes [] bytes = All-nil AreBytes
body_bytes (word ∷ words) bytes =
    All-cons AreBytes word words (bytes_rest (to_be_bytes w32 (length word)) word (bytes_front (word_bytes word) (body words) bytes))
    (body_bytes words (bytes_rest (word_bytes word) (body words) bytes))

pub words_bytes : (f : TaggedWords) → AreBytes (spelling f) → All AreBytes f.words
unfolding spelling
words_bytes f bytes = body_bytes f.words (bytes_rest (header f.tag (length f.words)) (body f.words) bytes)
