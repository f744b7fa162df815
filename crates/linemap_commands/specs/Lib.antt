pub use Rattle.linemap_image.specs.ImageAnswers
pub use Rattle.linemap_image.specs.TableImages
pub mod Emission
pub mod Reports
pub mod Targets
pub use Rattle.linemap_image.specs.ImageLaws
pub use Rattle.linemap_image.specs.SpelledImages
pub use Rattle.linemap_image.specs.WrittenNumbers
