-- The end of the input as the lines report it (`EndsWithSource`), and the counts of a sink over several calls.
use Rattle.std.proofs.Common.{◌≡◌, ℕ, ◌+◌, Bool, true, false, ◌||◌, inl, inr, Result, Ok, Err, refl, sym, ap, ◌∙◌, arith, IsTrue}
use Rattle.std.proofs.lemmas.Bool.{false≢true}
use Rattle.std.proofs.Math.Bool.{or-true}
use Rattle.std.specs.Result.{is_err, is_ok, OnOk}
use Rattle.rv_streams.specs.declared.device.Source.{Ghosts}
use Rattle.rv_streams.specs.declared.lines.Lines.{Lines}
use Rattle.rv_streams.specs.declared.device.Sink.{Ghosts as SinkGhosts}
use Rattle.rv_streams.specs.Calls.{NoneFailed, SinkFailed, SinkFlushed, SinkWorked}
use Rattle.rv_streams.specs.Device.{counted_if, HasRisen}
use Rattle.rv_streams.specs.Script.{ReadsThroughSeparator}
use Rattle.rv_streams.specs.Separator.{has_separator}
use Rattle.rv_streams.specs.Unread.{unread, HasEnded, EndsWithSource}

-- lines that do not change end with their source
pub EndsWithSource-none : {S : Type 0} {source_view : Ghosts S} (lines : Lines S source_view) → EndsWithSource lines lines
EndsWithSource-none lines = record {
  stays_at_end = λ at_end. (at_end, refl);
  no_new_end = λ _. refl;
  ended = λ at_end. inl at_end;
  same_input = refl;
  followed_before = λ follows. follows;
}

-- if the lines end in a call, the source has returned its end in this call
pub EndsWithSource-ends : {S : Type 0} {source_view : Ghosts S} (old new : Lines S source_view) → old.is_at_end ≡ false → new.is_at_end ≡ true
    → source_view.ends new.source ≡ source_view.ends old.source + 1 → source_view.input new.source ≡ source_view.input old.source
    → (source_view.follows_input new.source → source_view.follows_input old.source) → EndsWithSource old new
EndsWithSource-ends {S} {source_view} old new not_at_end at_end one_more_end same_input follows_before =
    let ends_rose : HasRisen (source_view.ends old.source) (source_view.ends new.source) = omega (arith, one_more_end) in record {
      stays_at_end = λ was_at_end. cc;
      no_new_end = λ still_not_at_end. cc;
      ended = λ _. inr ends_rose;
      same_input = same_input;
      followed_before = follows_before;
    }

-- a call that does not fail leaves the count of failures unchanged
pub no_failure : {A E : Type 0} (old between new : ℕ) (result : Result A E) (value : A) → new ≡ counted_if (is_err result) between → result ≡ Ok value
    → between ≡ old
    → new ≡ old
no_failure old between new result value new_is result_is between_is =
    new_is ∙ (ap (λ result. counted_if (is_err result) between) result_is ∙ between_is)

-- a sink that worked and then failed has failed
pub SinkFailed-after : {W : Type 0} (sink_view : SinkGhosts W) {old between new : W} → SinkWorked sink_view old between
    → SinkFailed sink_view between new
    → SinkFailed sink_view old new
SinkFailed-after sink_view first (inl failures_rose) =
    let (same_failures, same_refusals) = first.worked in inl (omega (arith, failures_rose, same_failures))
SinkFailed-after sink_view first (inr refusals_rose) =
    let (same_failures, same_refusals) = first.worked in inr (omega (arith, refusals_rose, same_refusals))

-- a sink that worked in two calls, one after the other, worked in both together
pub SinkWorked-more : {W : Type 0} (sink_view : SinkGhosts W) {old between new : W} → SinkWorked sink_view old between
    → SinkWorked sink_view between new
    → SinkWorked sink_view old new
SinkWorked-more sink_view first next = record {
  worked = (next.worked.0 ∙ first.worked.0, next.worked.1 ∙ first.worked.1);
  unflushed = next.unflushed ∙ first.unflushed;
}

-- a sink that worked, and was flushed once after that, was flushed once in both calls together
pub SinkFlushed-after : {W : Type 0} (sink_view : SinkGhosts W) {old between new : W} → SinkWorked sink_view old between
    → SinkFlushed sink_view between new
    → SinkFlushed sink_view old new
SinkFlushed-after sink_view first flush = record {
  worked = (flush.worked.0 ∙ first.worked.0, flush.worked.1 ∙ first.worked.1);
  flushed = flush.flushed;
  once = flush.once ∙ ap (λ count. count + 1) first.unflushed;
}

-- if a call succeeds that writes a text and flushes the sink, the sink is flushed once after it
pub flushed_once : {W A E : Type 0} (sink_view : SinkGhosts W) {old new : W} (result : Result A E) {value : A} → result ≡ Ok value
    → OnOk result (NoneFailed sink_view old new)
    → OnOk result ((sink_view.is_flushed new ≡ true) × (sink_view.flushes new ≡ sink_view.flushes old + 1)) → SinkFlushed sink_view old new
flushed_once sink_view (Ok value) result_is worked (is_flushed, one_more_flush) =
    record { worked = worked; flushed = is_flushed; once = one_more_flush }
flushed_once sink_view (Err fault) result_is worked flushed = let impossible : Err fault ≡ Ok _ = result_is in cc

-- a flush that succeeded counts as one flush, without a failure
pub SinkFlushed-flush : {W A E : Type 0} (sink_view : SinkGhosts W) {old new : W} (result : Result A E) {value : A} → result ≡ Ok value
    → sink_view.failures new ≡ counted_if (is_err result) (sink_view.failures old) → sink_view.refusals new ≡ sink_view.refusals old
    → sink_view.is_flushed new ≡ (sink_view.is_flushed old || is_ok result)
    → sink_view.flushes new ≡ counted_if (is_ok result) (sink_view.flushes old) → SinkFlushed sink_view old new
SinkFlushed-flush sink_view {old = old} (Ok value) result_is same_failures same_refusals is_flushed flushes_is =
    record { worked = (same_failures, same_refusals); flushed = is_flushed ∙ or-true (sink_view.is_flushed old); once = flushes_is }
SinkFlushed-flush sink_view (Err fault) result_is same_failures same_refusals is_flushed flushes_is =
    let impossible : Err fault ≡ Ok _ = result_is in cc

-- the lines end with their source over two calls, one after the other
pub EndsWithSource-more : {S : Type 0} {source_view : Ghosts S} (old between new : Lines S source_view) → EndsWithSource old between
    → EndsWithSource between new
    → EndsWithSource old new
EndsWithSource-more {S} {source_view} old between new first second = record {
  stays_at_end = λ at_end. let (at_end_between, first_ends) = first.stays_at_end at_end in
      let (new_at_end, second_ends) = second.stays_at_end at_end_between in (new_at_end, second_ends ∙ first_ends);
  no_new_end = λ not_at_end. no_new_end between.is_at_end refl not_at_end;
  ended = λ at_end. has_ended between.is_at_end refl at_end;
  same_input = second.same_input ∙ first.same_input;
  followed_before = λ follows. first.followed_before (second.followed_before follows);
} where
  -- if the lines are not at their end in `new`, the number of ends that the source returned is unchanged
  no_new_end : (ended_between : Bool) → between.is_at_end ≡ ended_between → new.is_at_end ≡ false
      → source_view.ends new.source ≡ source_view.ends old.source
  no_new_end true at_end_between not_at_end = let (new_at_end, same_ends) = second.stays_at_end at_end_between in cc
  no_new_end false not_at_end_between not_at_end = second.no_new_end not_at_end ∙ first.no_new_end not_at_end_between

  -- if the lines are at their end in `new`, the source returned its end, in the first call if `ended_between`, and otherwise in the second
  has_ended : (ended_between : Bool) → between.is_at_end ≡ ended_between → new.is_at_end ≡ true → HasEnded old new
  has_ended true at_end_between at_end = elim (first.ended at_end_between) [
    | inl old_at_end ↦ inl old_at_end
    | inr first_rose ↦
        let (new_at_end, same_ends) = second.stays_at_end at_end_between in
        let ends_rose : HasRisen (source_view.ends old.source) (source_view.ends new.source) = omega (arith, first_rose, same_ends) in inr ends_rose
  ]
  has_ended false not_at_end_between at_end = elim (second.ended at_end) [
    | inl at_end_between ↦ cc
    | inr second_rose ↦
        let same_ends = first.no_new_end not_at_end_between in
        let ends_rose : HasRisen (source_view.ends old.source) (source_view.ends new.source) = omega (arith, second_rose, same_ends) in inr ends_rose
  ]

-- if lines were read through the separator, and not to the end of the input, the input has a separator
pub separator_read : {S : Type 0} {source_view : Ghosts S} (old between new : Lines S source_view) → ReadsThroughSeparator old between
    → EndsWithSource between new
    → new.is_at_end ≡ false → source_view.follows_input new.source → IsTrue (has_separator (unread old))
separator_read old between new reads ends not_at_end follows = elim reads.ended [
  | inl at_end_between ↦
      let (new_at_end, same_ends) = ends.stays_at_end at_end_between in absurd (false≢true (sym not_at_end ∙ new_at_end))
  | inr separated ↦ separated (ends.followed_before follows)
]
