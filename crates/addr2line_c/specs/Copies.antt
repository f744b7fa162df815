-- Frames as copies, and the frames that these hold.
use Rattle.std.specs.Prelude.{option_map}
use Rattle.std.specs.String.{string_bytes}
use Rattle.addr2line_context.specs.OwnedPlaces.{location_of}
use Rattle.addr2line_c.specs.ShownFrames.{ShownFrame}
use Rattle.addr2line_c.specs.declared.copies.OwnedFrame.{OwnedFrame}

-- the frame that a copy holds
abbrev pub frame_of : OwnedFrame → ShownFrame
frame_of f =
    record {
      name = option_map string_bytes f.name;
      language = option_map (λ l. l.0) f.language;
      offset = f.offset;
      location = option_map location_of f.location;
    }
