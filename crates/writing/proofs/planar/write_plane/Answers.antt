-- `writing::planar::write_plane` meets its contract: the laws are in proofs/Planewise.antt. Assumes nothing.
use native.Mathlib.Omega.{arith}
use Prim.Native.Nat.{◌*◌}
use mathlib.Core.Path.{sym, ◌∙◌}
use Rattle.writing.specs.Parts.{ChannelFits}
use Rattle.writing.proofs.Planewise.{channel-fits, plane_kept, plane_over}
use Rattle.pixels.proofs.HighFirst.{one_or_two}
use Rattle.writing.proofs.planar.write_plane.Goals.{Start}
use Rattle.writing.proofs.planar.write_plane.Goals as goal

-- the channel's bytes
fits : (c : Start) → let args = c.args in let l = args.l in ChannelFits args.picture.now (args.c * l.fields.bytes) (l.fields.ch * l.fields.bytes) l.fields.bytes args.out.now
fits c =
    let pre = c.requires in channel-fits c.args.l pre.sound pre.narrow pre.apart c.args.picture.now c.args.c pre.channel pre.all c.args.out.now pre.room

pub overflow_mul-c : goal.overflow_mul-c
overflow_mul-c c =
    omega (arith, fits (goal.at.overflow_mul-c c).Start)

pub overflow_mul-l : goal.overflow_mul-l
overflow_mul-l c =
    omega (arith, fits (goal.at.overflow_mul-l c).Start)

pub channel-requires : goal.channel-requires
channel-requires c =
    ((fits (goal.at.channel-requires c).Start), one_or_two c.args.l c.requires.sound c.requires.narrow)

pub returns-then-flips_channel : goal.returns-then-flips_channel
returns-then-flips_channel c =
    let pre = c.requires in
    plane_over c.args.l pre.sound pre.narrow pre.apart c.args.picture.now c.args.c pre.channel pre.all c.args.out.now pre.room _ c.channel.ensures (sym c.flips_channel.ensures ∙ c.if-flips_channel.true) _ c.invert.ensures

pub returns-else-flips_channel : goal.returns-else-flips_channel
returns-else-flips_channel c =
    let pre = c.requires in
    plane_kept c.args.l pre.sound pre.narrow pre.apart c.args.picture.now c.args.c pre.channel pre.all c.args.out.now pre.room _ c.channel.ensures (sym c.flips_channel.ensures ∙ c.if-flips_channel.false)
