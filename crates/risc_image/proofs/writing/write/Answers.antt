-- What was written, part after part, is the spelling of the parts.
use Rattle.std.proofs.Common.{◌≡◌, ◌++◌, List, ap, subst, ◌∙◌}
use Rattle.std.specs.Prelude.{All}
use Rattle.std.specs.List.{flat_map}
use Rattle.risc_image.specs.declared.rows.FrameRow.{FrameRow}
use Rattle.risc_image.specs.declared.rows.ObjectRow.{ObjectRow}
use Rattle.risc_image.specs.declared.rows.TrapRow.{TrapRow}
use Rattle.risc_image.specs.declared.rows.CallRow.{CallRow}
use Rattle.risc_image.specs.Image.{Image, IsWellFormed, call_rows}
use Rattle.risc_image.specs.Format.{AreWords, word_bytes, magic_of, header, frame_words, object_words, trap_words}
use Rattle.risc_image.specs.Format.{call_words}
use Rattle.risc_image.proofs.Written.{image_written, words_fit}
use Rattle.risc_image.proofs.writing.write.Goals as goal

pub returns : goal.returns
returns c =
    let code : c.deref.result.now ≡ c.args.parts.now.code = c.deref.ensures.value
    ∙ ap (λ (i : Image). i.code) c.parts.view_is in
    let frames : c.deref-2.result.now ≡ c.args.parts.now.frames = c.deref-2.ensures.value
    ∙ ap (λ (i : Image). i.frames) c.parts.view_is in
    let objects : c.deref-3.result.now ≡ c.args.parts.now.objects = c.deref-3.ensures.value
    ∙ ap (λ (i : Image). i.objects) c.parts.view_is in
    let traps : c.deref-4.result.now ≡ c.args.parts.now.traps = c.deref-4.ensures.value
    ∙ ap (λ (i : Image). i.traps) c.parts.view_is in
    let calls : c.rows_of_calls.result.now ≡ call_rows c.args.parts.now = c.rows_of_calls.ensures in
    let good : IsWellFormed c.args.parts.now = subst (λ (i : Image). IsWellFormed i) c.parts.view_is c.parts.invariant
    in
    let e1 : c.put_header.new.out.items ≡ magic_of c.args.parts.now.calls ++ word_bytes (header c.args.parts.now) =
    c.in_ok-put_header.ensures ∙ ap (λ (x : List _). x
    ++ (magic_of c.args.parts.now.calls ++ word_bytes (header c.args.parts.now))) c.new-out.ensures.items in
    let e2 : c.put_words.new.out.items ≡ c.put_header.new.out.items ++ word_bytes c.args.parts.now.code =
    c.in_ok-put_words.ensures.bytes ∙ ap (λ (x : List _). c.put_header.new.out.items ++ word_bytes x) code in
    let e3 : c.put_frames.new.out.items ≡ c.put_words.new.out.items ++ flat_map
    (λ row. word_bytes (frame_words row)) c.args.parts.now.frames =
    c.in_ok-put_frames.ensures.bytes ∙ ap (λ (x : List FrameRow). c.put_words.new.out.items ++ flat_map
    (λ row. word_bytes (frame_words row)) x) frames in
    let e4 : c.put_objects.new.out.items ≡ c.put_frames.new.out.items ++ flat_map
    (λ row. word_bytes (object_words row)) c.args.parts.now.objects =
    c.in_ok-put_objects.ensures.bytes ∙ ap (λ (x : List ObjectRow). c.put_frames.new.out.items ++ flat_map
    (λ row. word_bytes (object_words row)) x) objects in
    let e5 : c.put_traps.new.out.items ≡ c.put_objects.new.out.items ++ flat_map
    (λ row. word_bytes (trap_words row)) c.args.parts.now.traps =
    c.in_ok-put_traps.ensures.bytes ∙ ap (λ (x : List TrapRow). c.put_objects.new.out.items ++ flat_map
    (λ row. word_bytes (trap_words row)) x) traps in
    let e6 : c.put_calls.new.out.items ≡ c.put_traps.new.out.items ++ flat_map (λ row. word_bytes (call_words row))
    (call_rows c.args.parts.now) =
    c.in_ok-put_calls.ensures.bytes ∙ ap (λ (x : List CallRow). c.put_traps.new.out.items ++ flat_map
    (λ row. word_bytes (call_words row)) x) calls in
    record {
      spelled = image_written c.args.parts.now _ _ _ _ _ _ e1 e2 e3 e4 e5 e6;
      numbers = words_fit c.args.parts.now good
          (subst (λ (x : List _). AreWords x) code c.in_ok-put_words.ensures.numbers)
          (subst (λ (x : List FrameRow). All (λ row. AreWords (frame_words row)) x) frames
          c.in_ok-put_frames.ensures.numbers)
          (subst (λ (x : List ObjectRow). All (λ row. AreWords (object_words row)) x) objects
          c.in_ok-put_objects.ensures.numbers)
          (subst (λ (x : List TrapRow). All (λ row. AreWords (trap_words row)) x) traps
          c.in_ok-put_traps.ensures.numbers)
          (subst (λ (x : List CallRow). All (λ row. AreWords (call_words row)) x) calls
          c.in_ok-put_calls.ensures.numbers);
      well_formed = good;
    }
