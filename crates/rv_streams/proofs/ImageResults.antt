-- The results of reading an image, by the line that ends it: the separator, the end of the input, or a line with an error.
use Rattle.std.proofs.Common.{◌≡◌, ◌≤◌, ℕ, false, arith, codes, List, [], Some, None, Ok, Err, Vec, vec_len, ap, sym, ◌∙◌}
use Rattle.std.specs.Str.{bytes_eq}
use Rattle.rv_streams.specs.declared.device.Source.{Ghosts}
use Rattle.rv_streams.specs.declared.fault.BenchFault.{BenchFault}
use Rattle.rv_streams.specs.declared.fault.BenchFault.TheVariants.{Hex, TooLong, NoMemory}
use Rattle.rv_streams.specs.declared.lines.Lines.{Lines}
use Rattle.rv_streams.specs.declared.separator.ScriptEnd.TheVariants.{Separator}
use Rattle.rv_streams.specs.Calls.{SourceWorked}
use Rattle.rv_streams.specs.Image.{AddsBytes}
use Rattle.rv_streams.specs.ReadImage.{ReadsImage}
use Rattle.rv_streams.specs.Script.{FindsEnd}
use Rattle.rv_streams.specs.Separator.{is_dashes, is_separator, line_word}
use Rattle.rv_streams.specs.Unread.{held, unread}
use Rattle.rv_streams.proofs.ImageLemmas.{image_limit, EncodesImage, TakesInImage, EncodesImage-refused, EncodesImage-no_digits, EncodesImage-too_long}
use Rattle.rv_streams.proofs.ImageLemmas.{EncodesImage-taken, EncodesImage-whole}
use Rattle.rv_streams.proofs.ScriptLemmas.{FindsEnd-whole, FindsEnd-separator}

-- a line without a valid word is no separator
pub no_separator : (line : List ℕ) → None ≡ line_word line → is_separator line ≡ false
no_separator line no_word = ap is_dashes (sym no_word)

-- a line whose word is not `--` is no separator
pub other_word : (line word : List ℕ) → Some word ≡ line_word line → bytes_eq word (codes "--") ≡ false → is_separator line ≡ false
other_word line word word_is not_dashes = ap is_dashes (sym word_is) ∙ not_dashes

module _ {S : Type 0} {source_view : Ghosts S} (Z : Type 0) (old new : Lines S source_view)
    (source_worked : SourceWorked source_view old.source new.source)
    (none_held : held new ≡ []) where
  -- the result at a line whose bytes are not appended is the fault of this line
  pub refused : (remaining image added shown word : List ℕ) (fault : BenchFault)
      → (source_view.follows_input new.source → TakesInImage (unread old) remaining (unread new) new.is_at_end image shown)
      → Some word ≡ line_word shown → AddsBytes word image added (Err fault) → ReadsImage {Z = Z} old new (Err fault)
  -- the word of the line is not an even number of hexadecimal digits
  refused remaining image added shown word Hex line_taken word_is (no_bytes, unchanged) = record {
    source = source_worked;
    emptied = none_held;
    image = λ follows. let (image_fails, stops_at_line) = EncodesImage-no_digits (line_taken follows) word_is no_bytes in image_fails;
    reads = λ follows. let (image_fails, stops_at_line) = EncodesImage-no_digits (line_taken follows) word_is no_bytes in stops_at_line;
  }
  -- the image with the bytes of the line exceeds the limit
  refused remaining image added shown word TooLong line_taken word_is (exceeds, unchanged) = record {
    source = source_worked;
    emptied = none_held;
    image = λ follows. let (image_fails, stops_at_line) = EncodesImage-too_long (line_taken follows) word_is exceeds in image_fails;
    reads = λ follows. let (image_fails, stops_at_line) = EncodesImage-too_long (line_taken follows) word_is exceeds in stops_at_line;
  }
  -- memory for the bytes of the line is refused
  refused remaining image added shown word NoMemory line_taken word_is (memory_refused, unchanged) =
      let reads = λ (follows : source_view.follows_input new.source). EncodesImage-refused (line_taken follows) word_is memory_refused in
      record { source = source_worked; emptied = none_held; reads = reads }
  refused remaining image added shown word _ line_taken word_is impossible = absurd impossible

  -- if no line of the image is left, the result is the image, which has at most 32 MiB
  pub image_read : (before_end : Lines S source_view) (image : Vec ℕ Z) → FindsEnd Separator before_end new → vec_len image ≤ image_limit
      → (source_view.follows_input new.source → EncodesImage (unread old) (unread before_end) before_end.is_at_end image.items)
      → ReadsImage old new (Ok image)
  image_read before_end image found_end within_limit encodes = (
    FindsEnd-separator old before_end new source_worked none_held found_end
        (λ follows. ((encodes follows).lines, EncodesImage-taken (encodes follows))),
    within_limit,
    λ follows. EncodesImage-whole _ _ _ _ _ (encodes follows) (omega arith)
        (FindsEnd-whole old before_end new Separator _ found_end (EncodesImage-taken (encodes follows)) follows),
  )
