pub use Rattle.addr2line_elf.specs.declared.class.Class
pub use Rattle.addr2line_elf.specs.ElfClasses
pub mod SpelledImages
pub mod WrittenImages
pub mod ImageLaws
pub mod WrittenNumbers
