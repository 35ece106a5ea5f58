-- A piece that is taken from a buffer, filling by filling.
use Rattle.std.proofs.Common.{◌≡◌, ◌≢◌, ℕ, ◌<◌, List, [], ◌∷◌, ◌++◌, length, Option, refl, sym, ap, ◌∙◌, append_assoc, length-append, arith}
use Rattle.std.specs.Io.KnownBytes.{prepend_known}
use Rattle.mtrace_log.specs.Bytes.{Lacks, newline}
use Rattle.mtrace_log.specs.Progress.{HasMore}
use Rattle.mtrace_log.specs.LineBuffer.{Holds, TakesPiece}
use Rattle.mtrace_log.specs.declared.line_buffer.LineBuffer.{LineBuffer}
use Rattle.mtrace_log.specs.declared.pieces.Stop.TheVariants.{Newline, Failed}
use Rattle.mtrace_log.proofs.TextLemmas.{AllByRecursion-append, prepend_known-append, prepend_known-step, prepend_known-line}

-- all that was unread, without newline
pub piece_rest : (line_old line_new : LineBuffer) (front : List ℕ) (before left : Option (List ℕ)) → TakesPiece line_old Failed before (prepend_known front left)
    → Lacks newline front → ((piece : List ℕ) → Holds line_old piece → Holds line_new (piece ++ front)) → TakesPiece line_new Failed before left
piece_rest line_old line_new front before left so_far lacks held =
    record {
      piece = so_far.piece ++ front;
      some = omega (arith, so_far.some, length-append so_far.piece front);
      no_newline = AllByRecursion-append (λ c. c ≢ newline) so_far.piece front so_far.no_newline lacks;
      held = held so_far.piece so_far.held;
      taken = prepend_known-step so_far.piece front before (prepend_known front left) left so_far.taken refl;
    }

-- what was unread up to a newline
pub piece_to_newline : (line_old line_new : LineBuffer) (front old new : List ℕ) (before left : Option (List ℕ)) → TakesPiece line_old Failed before (prepend_known old left)
    → Lacks newline front → old ≡ front ++ newline ∷ new → ((piece : List ℕ) → Holds line_old piece → Holds line_new (piece ++ front)) → TakesPiece line_new Newline before (prepend_known new left)
piece_to_newline line_old line_new front old new before left so_far lacks taken held =
    record {
      piece = so_far.piece ++ front;
      some = omega (arith, so_far.some, length-append so_far.piece front);
      no_newline = AllByRecursion-append (λ c. c ≢ newline) so_far.piece front so_far.no_newline lacks;
      held = held so_far.piece so_far.held;
      taken =
          prepend_known-step so_far.piece (front ++ newline ∷ []) before (prepend_known old left) (prepend_known new left) so_far.taken (prepend_known-line old front new left taken)
          ∙ ap (λ text. prepend_known text (prepend_known new left)) (sym (append_assoc so_far.piece front (newline ∷ [])));
    }

-- the unread bytes, without newline
pub piece_begun : (line : LineBuffer) (bytes : List ℕ) (left : Option (List ℕ)) → 0 < length bytes → Lacks newline bytes → Holds line bytes → TakesPiece line Failed (prepend_known bytes left) left
piece_begun line bytes left some lacks held = record { piece = bytes; some = some; no_newline = lacks; held = held; taken = refl }

-- with unread bytes more is to come
pub has_more : (bytes : List ℕ) (left : Option (List ℕ)) → 0 < length bytes → HasMore (prepend_known bytes left)
has_more [] left some = absurd (omega (arith, some))
has_more (b ∷ bytes) left some = (b, prepend_known bytes left, prepend_known-append (b ∷ []) bytes left)
