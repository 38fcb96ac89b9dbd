pub mod HeadroomLaws
